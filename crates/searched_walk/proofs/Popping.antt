-- A face crosses its edges, is taken off the stack, and so on until the stack is empty. Assumes nothing.
use mathlib.Core.Path.{◌≡◌, refl, sym, ap, ap₂, subst, ◌∙◌}
use mathlib.Core.List.{List, [], ◌∷◌, map}
use Prim.Native.Nat.{ℕ, zero, suc, ◌-◌, ◌/◌, ◌≤◌, ◌<◌}
use native.Mathlib.Omega.{arith}
use lib.ListN.{length, get_or}
use Rattle.rules.specs.Lists.{through}
use Rattle.rules.specs.Mesh.{face}
use Rattle.rules.specs.Steps.{Step, step, steps}
use Rattle.rules.specs.Pass4.{Walk, across, popped, run}
use Rattle.rule_laws.proofs.Rising.{All}
use Rattle.orienting.proofs.Room.{Sound, popped_sound}
use Rattle.face_words.specs.Words.{view, place}
use Rattle.face_words.specs.Views.{seen_as}
use Rattle.face_words.specs.declared.Corners.{Corners}
use Rattle.face_words.proofs.Places.{viewed_face}
use Rattle.searched_walk.specs.declared.Hand.{Hand}
use Rattle.searched_walk.specs.Walking.{chain, walk_of, Visited, Ready, Kept, WalkGives, MeetAsks, AcrossGives, CrossGives, PopAsks, PopGives, EmptyGives}
use Rattle.searched_walk.proofs.Noting.{kept_none, kept_both, place_kept, up_kept}
use Rattle.searched_walk.proofs.Meeting.{walk_then, walk_as}

-- ---- a face crosses its edges

-- it still stands
pub still_ask : {xs w : List ℕ} {h : Hand} {j : ℕ} → MeetAsks xs w h j → {v : Walk} {w₁ : List ℕ} {h₁ : Hand} → WalkGives xs w h v w₁ h₁ → MeetAsks xs w₁ h₁ j
still_ask {xs} {w} {h} {j} p g = let l = g.kept.long in record { ready = g.ready; here = omega (arith, p.here); up = up_kept g.kept j p.up }

-- it crosses by one step more
cross_more :
    {xs w : List ℕ} {h : Hand} (j : ℕ) {v : Walk} {w₁ : List ℕ} {h₁ : Hand} → WalkGives xs w h v w₁ h₁ → (s : Step)
    → {w₂ : List ℕ} {h₂ : Hand} → AcrossGives xs w₁ h₁ j s w₂ h₂ → WalkGives xs w h (across (place w j) v s) w₂ h₂
cross_more {xs} {w} {h} j {v} {w₁} {h₁} g s k = walk_as (ap (λ i. across i v s) (place_kept g.kept j)) (walk_then g (λ u. across (place w₁ j) u s) k)

-- by all three
pub crossed :
    {xs w : List ℕ} {h : Hand} {j : ℕ} {r : Corners} → seen_as r j ≡ view xs w j
    → {w₁ : List ℕ} {h₁ : Hand} → AcrossGives xs w h j (step r.a r.b) w₁ h₁
    → {w₂ : List ℕ} {h₂ : Hand} → AcrossGives xs w₁ h₁ j (step r.b r.c) w₂ h₂
    → {w₃ : List ℕ} {h₃ : Hand} → AcrossGives xs w₂ h₂ j (step r.c r.a) w₃ h₃
    → CrossGives xs w h j w₃ h₃
unfolding through
crossed {xs} {w} {h} {j} {r} e f g k =
    walk_as (ap (λ u. through (across (place w j)) (walk_of xs w h) (steps u)) e) (cross_more j (cross_more j f (step r.b r.c) g) (step r.c r.a) k)

-- ---- the top is taken off

module _ {xs w : List ℕ} {h : Hand} (p : PopAsks xs w h) where
  -- the hand then
  abbrev h₁ : Hand
  h₁ = record { top = get_or w h.top 0 / 256; size = h.size - 1; exchanges = h.exchanges; mark = h.mark; marks = h.marks }

  abbrev v : Walk
  v = walk_of xs w h

  -- those below
  abbrev rest : List ℕ
  rest = chain w (h.size - 1) (get_or w h.top 0 / 256)

  chain_is : chain w h.size h.top ≡ h.top ∷ rest
  unfolding chain
  chain_is = let e : h.size ≡ suc (h.size - 1) = omega (arith, p.some) in ap (λ n. chain w n h.top) e

  parts : All (Visited w) (h.top ∷ rest)
  parts = subst (All (Visited w)) chain_is p.ready.stacked

  -- the top is a face
  pub top_in : Visited w h.top
  top_in = parts.0

  stack_is : v.stack ≡ place w h.top ∷ map (place w) rest
  unfolding walk_of
  stack_is = ap (map (place w)) chain_is

  walk_popped : walk_of xs w h₁ ≡ popped (map (place w) rest) v
  unfolding walk_of popped
  walk_popped = refl

  pub pop_ask : MeetAsks xs w h₁ h.top
  pop_ask =
      record {
        ready =
            record {
              worded = p.ready.worded;
              fresh = p.ready.fresh;
              top = p.ready.links h.top top_in.0;
              links = p.ready.links;
              stacked = parts.1;
              sound = subst (Sound (place w (length w))) (sym walk_popped) (popped_sound p.ready.sound (place w h.top) (map (place w) rest) stack_is);
            };
        here = top_in.0;
        up = top_in.1;
      }

  -- one turn of the rule
  turn_is : (k : ℕ) → run (suc k) (place w h.top ∷ map (place w) rest) v ≡ (let after = through (across (place w h.top)) (popped (map (place w) rest) v) (steps (face v.faces (place w h.top))) in run k after.stack after)
  unfolding run
  turn_is k = refl

  face_is : face v.faces (place w h.top) ≡ view xs w h.top
  unfolding walk_of
  face_is = viewed_face xs w h.top top_in.0 top_in.1

  pub pop_gives : {w' : List ℕ} {h' : Hand} → CrossGives xs w h₁ h.top w' h' → PopGives xs w h w' h'
  pop_gives {w'} {h'} g =
      record {
        kept = g.kept;
        ready = g.ready;
        marks = g.marks;
        runs = λ k.
            ap (λ u. run k u.stack u)
            (g.walk ∙ ap₂ (λ u f. through (across (place w h.top)) u (steps f)) walk_popped (sym face_is))
            ∙ sym (turn_is k)
            ∙ ap (λ s. run (suc k) s v) (sym stack_is);
      }

-- ---- turns until the stack is empty

-- an empty stack ends the run
run_empty : (k : ℕ) (v : Walk) → run k [] v ≡ v
unfolding run
run_empty zero v = refl
run_empty (suc k) v = refl

-- no turn is no change
run_none : (v : Walk) → run 0 v.stack v ≡ v
unfolding run
run_none v = refl

-- `left` turns are left
pub record Emptying (xs w₀ : List ℕ) (h₀ : Hand) (n : ℕ) (w : List ℕ) (h : Hand) (left : ℕ) : Type 0 where
  pub most : left ≤ n
  pub kept : Kept w₀ w
  pub ready : Ready xs w h
  pub marks : h.marks ≡ h₀.marks
  pub runs : run left (walk_of xs w h).stack (walk_of xs w h) ≡ run n (walk_of xs w₀ h₀).stack (walk_of xs w₀ h₀)

pub empty_begin : {xs w : List ℕ} {h : Hand} (n : ℕ) → Ready xs w h → Emptying xs w h n w h n
empty_begin {xs} {w} {h} n p = record { most = omega arith; kept = kept_none w; ready = p; marks = refl; runs = refl }

module _ {xs w₀ : List ℕ} {h₀ : Hand} {n : ℕ} {w : List ℕ} {h : Hand} {left : ℕ} (u : Emptying xs w₀ h₀ n w h left) where
  -- the stack is empty
  pub empty_stop : h.size ≡ 0 → EmptyGives xs w₀ h₀ n w h
  empty_stop z = record { kept = u.kept; ready = u.ready; marks = u.marks; walk = sym (run_empty left (walk_of xs w h)) ∙ ap (λ s. run left s (walk_of xs w h)) (sym none) ∙ u.runs }
    where
      none : (walk_of xs w h).stack ≡ []
      none = unfold walk_of chain in (ap (λ k. map (place w) (chain w k h.top)) z)

  -- no turn is left
  pub empty_done : left ≤ 0 → EmptyGives xs w₀ h₀ n w h
  empty_done l = record { kept = u.kept; ready = u.ready; marks = u.marks; walk = last ∙ u.runs }
    where
      last : walk_of xs w h ≡ run left (walk_of xs w h).stack (walk_of xs w h)
      last = let e : 0 ≡ left = omega arith in sym (run_none (walk_of xs w h)) ∙ ap (λ k. run k (walk_of xs w h).stack (walk_of xs w h)) e

  pub empty_ask : (h.size ≡ 0 → ⊥) → PopAsks xs w h
  empty_ask z = record { ready = u.ready; some = omega arith }

  -- one turn fewer is left
  pub empty_again : 0 < left → {w' : List ℕ} {h' : Hand} → PopGives xs w h w' h' → Emptying xs w₀ h₀ n w' h' (left - 1)
  empty_again l {w'} {h'} g =
      let e : suc (left - 1) ≡ left = omega arith in
      record {
        most = omega (arith, u.most);
        kept = kept_both u.kept g.kept;
        ready = g.ready;
        marks = g.marks ∙ u.marks;
        runs = g.runs (left - 1) ∙ ap (λ k. run k (walk_of xs w h).stack (walk_of xs w h)) e ∙ u.runs;
      }
