-- What stays known while the walk goes on: visited faces stay as they are, and so does what is noted of crossed edges. Assumes nothing.
use mathlib.Core.Path.{◌≡◌, refl, sym, ap, ◌∙◌}
use mathlib.Core.Bool.{Bool, true, false, not}
use mathlib.Core.List.{List, [], ◌∷◌}
use Prim.Native.Nat.{ℕ, ◌+◌, ◌*◌, ◌≤◌, ◌<◌}
use native.Mathlib.Omega.{arith}
use lib.ListN.{length, get_or}
use Rattle.rows.specs.Region.{part, Apart.after, Only, Out.above}
use Rattle.rows.proofs.Regions.{part_eq}
use Rattle.rules.specs.Lists.{filter, through}
use Rattle.rules.specs.Mesh.{Face, faces_of, face}
use Rattle.rules.specs.Steps.{Step, walks, opposite, users}
use Rattle.rules.specs.Pass4.{Walk, remark, meet}
use Rattle.rule_laws.proofs.Rising.{All, all_imp}
use Rattle.table.proofs.Places.{tabled_kept}
use Rattle.orienting.specs.Reaching.{reach, sole, lone}
use Rattle.orienting.proofs.Reached.{stays}
use Rattle.reaching.specs.Walking.{stack_of, walk_of, Ready}
use Rattle.reaching.proofs.Reading.{stack_same}
use Rattle.reaching.proofs.Neighbours.{meet_new, meet_seen}
use Rattle.crossing.specs.Crossing.{Crossed, Going}
use Rattle.crossing.proofs.Mating.{mated_kept}

-- a later walk: visited faces stay visited and as they are
pub record Later (v v' : Walk) : Type 0 where
  pub stay : (i : ℕ) → get_or v.visited i false ≡ true → (get_or v'.visited i false ≡ true) × (face v'.faces i ≡ face v.faces i)

-- later twice
pub later_both : {u v w : Walk} → Later u v → Later v w → Later u w
later_both p q = record { stay = λ i h. let a = p.stay i h in let b = q.stay i a.0 in (b.0, b.1 ∙ a.1) }

-- faces were reached
pub later_reach : (s : Step) (v : Walk) (ms : List ℕ) → Later v (through (reach s) v ms)
later_reach s v ms = record { stay = λ i h. stays s i v ms h }

-- a mark was set
pub later_remark : (a : Bool) (v : Walk) → Later v (remark a v)
unfolding remark
later_remark a v = record { stay = λ i h. (h, refl) }

-- a face was met
later_meet : (s : Step) (v : Walk) (i : ℕ) → Later v (meet s v i)
later_meet s v i = go (get_or v.visited i false) refl
  where
    go : (b : Bool) → get_or v.visited i false ≡ b → Later v (meet s v i)
    go true e = rw (← meet_seen s v i e) (later_remark (walks (face v.faces i) (opposite s)) v)
    go false e = rw (← meet_new s v i e) (unfold through in later_reach s v (i ∷ []))

-- faces were met
pub later_meets : (s : Step) (v : Walk) (ms : List ℕ) → Later v (through (meet s) v ms)
unfolding through
later_meets s v [] = record { stay = λ i h. (h, refl) }
later_meets s v (m ∷ ms) = later_both (later_meet s v m) (later_meets s (meet s v m) ms)

-- an equal walk
pub later_as : {v w : Walk} → w ≡ v → Later v w
later_as {v} {w} e = record { stay = λ i h. (ap (λ u. get_or u.visited i false) e ∙ h, ap (λ u. face u.faces i) e) }

-- the same walk, and then an equal one
pub later_to : {u v w : Walk} → Later u v → w ≡ v → Later u w
later_to p e = later_both p (later_as e)

-- ---- who disagrees

-- a test that agrees on a list leaves the same
filter_same : (p q : ℕ → Bool) (us : List ℕ) → All (λ i. p i ≡ q i) us → filter p us ≡ filter q us
unfolding filter
filter_same p q [] h = refl
filter_same p q (u ∷ us) h = rw (h.0, filter_same p q us h.1)

-- the same faces, the same who disagree
pub lone_same : (many : ℕ) (fs gs : List Face) (t : Step) (us : List ℕ) → All (λ i. face gs i ≡ face fs i) us → lone many gs t us ≡ lone many fs t us
unfolding lone
lone_same many fs gs t us h =
    ap (through (sole many) 0)
    (filter_same (λ n. not (walks (face gs n) t)) (λ n. not (walks (face fs n) t)) us
    (all_imp (λ i. face gs i ≡ face fs i) (λ n. not (walks (face gs n) t) ≡ not (walks (face fs n) t)) (λ i e. ap (λ f. not (walks f t)) e) us h))

-- ---- the rows of the walk

-- the rows of the walk are as they were
pub walk_kept : (fs : List Face) (n : ℕ) (w w' : List ℕ)
    → length w' ≡ length w → 3 + 2 * n ≤ length w → get_or w 0 0 ≤ n → ((j : ℕ) → j < 3 + 2 * n → get_or w' j 0 ≡ get_or w j 0) → walk_of fs n w' ≡ walk_of fs n w
unfolding walk_of
walk_kept fs n w w' l h t same =
    let s : part w' 3 n ≡ part w 3 n = part_eq w' w 3 3 n (omega arith) (omega arith) (λ i q. same (3 + i) (omega arith)) in
    let top = same 0 (omega arith) in
    let k : stack_of w' (3 + n) (get_or w' 0 0) ≡ stack_of w (3 + n) (get_or w 0 0) =
    ap (stack_of w' (3 + n)) top ∙ stack_same w w' (3 + n) (get_or w 0 0) (λ j q. same (3 + n + j) (omega arith))
    in
    rw (s, k, same 1 (omega arith), same 2 (omega arith))

-- ---- what is known of an edge

module _ {w w' xs : List ℕ} {n : ℕ} (later : Later (walk_of (faces_of xs) n w) (walk_of (faces_of xs) n w')) where
  -- of one
  pub crossed_kept : {e : Step} {r : ℕ} → get_or w' (3 + 2 * n + 3 * r + 1) 0 ≡ get_or w (3 + 2 * n + 3 * r + 1) 0 → get_or w' (3 + 2 * n + 3 * r + 2) 0 ≡ get_or w (3 + 2 * n + 3 * r + 2) 0
      → Crossed w xs n e r → Crossed w' xs n e r
  crossed_kept {e} {r} a b c =
      let v = walk_of (faces_of xs) n w in
      let v' = walk_of (faces_of xs) n w' in
      let us = users (faces_of xs) e in
      let same : All (λ i. face v'.faces i ≡ face v.faces i) us =
      all_imp (λ i. get_or v.visited i false ≡ true) (λ i. face v'.faces i ≡ face v.faces i) (λ i h. (later.stay i h).1) us c.seen
      in
      record {
        seen = all_imp (λ i. get_or v.visited i false ≡ true) (λ i. get_or v'.visited i false ≡ true) (λ i h. (later.stay i h).0) us c.seen;
        up = a ∙ c.up ∙ sym (lone_same (n + 1) v.faces v'.faces (opposite e) us same);
        down = b ∙ c.down ∙ sym (lone_same (n + 1) v.faces v'.faces e us same);
      }

  -- of all, where only the rows of the walk are changed
  pub going_kept : Going w xs n → Ready w' xs n → Only 0 (3 + 2 * n) w w' → Going w' xs n
  going_kept g r o =
      record {
        ready = r;
        points = g.points;
        runs = g.runs;
        tabled = tabled_kept o (after (omega arith)) g.tabled;
        mated = mated_kept o (omega arith) g.mated;
        crossed = λ q h z.
            crossed_kept (o.same (3 + 2 * n + 3 * q + 1) (above (omega arith))) (o.same (3 + 2 * n + 3 * q + 2) (above (omega arith)))
            (g.crossed q h (λ e. z (o.same (3 + 2 * n + 3 * q) (above (omega arith)) ∙ e)));
      }
