-- One turn of the walk, and turns until the stack is empty. Assumes nothing.
use mathlib.Core.Path.{◌≡◌, refl, sym, ap, ◌∙◌}
use mathlib.Core.List.{List, [], ◌∷◌}
use Prim.Native.Nat.{ℕ, zero, suc, ◌+◌, ◌-◌, ◌*◌, ◌≤◌, ◌<◌}
use native.Mathlib.Omega.{arith}
use lib.ListN.{length, get_or, set, length-set}
use lib.Seq.{get_or-set_same, get_or-set_other}
use Rattle.rows.specs.Region.{part, Only}
use Rattle.rows.proofs.Regions.{part_eq, only_none, only_both, only_more, only_set}
use Rattle.rules.specs.Lists.{through}
use Rattle.rules.specs.Mesh.{faces_of, face}
use Rattle.rules.specs.Steps.{steps}
use Rattle.rules.specs.Pass4.{Walk, across, popped, run}
use Rattle.orienting.proofs.Room.{Seen, popped_sound}
use Rattle.reaching.specs.Walking.{stack_of, walk_of}
use Rattle.reaching.proofs.Reading.{stack_same}
use Rattle.reaching.proofs.Visiting.{ready_as}
use Rattle.crossing.specs.Crossing.{Going, FaceAsks, FaceGives}
use Rattle.crossing.proofs.Keeping.{Later, later_to, going_kept}
use Rattle.orient_consistently.specs.Walked.{PopAsks, PopGives, EmptyAsks, EmptyGives}

-- ---- one turn

-- what the code reads
pub record Bounds (w : List ℕ) (n top : ℕ) : Type 0 where
  pub few : n ≤ 4194304
  pub some : 0 < get_or w 0 0
  pub most : get_or w 0 0 ≤ n
  pub fit : 3 + 11 * n ≤ length w
  pub fit_after : 3 + 11 * n ≤ length (set w 0 top)
  pub face : get_or (set w 0 top) (3 + n + top) 0 < n

-- taking off the top changes no face
later_popped : (rest : List ℕ) (v : Walk) → Later v (popped rest v)
unfolding popped
later_popped rest v = record { stay = λ i h. (h, refl) }

module _ {w xs : List ℕ} {n : ℕ} (p : PopAsks w xs n) where
  -- how many stay on the stack
  abbrev top : ℕ
  top = get_or w 0 0 - 1

  -- the row then
  abbrev w₁ : List ℕ
  w₁ = set w 0 top

  -- the walk before
  abbrev v : Walk
  v = walk_of (faces_of xs) n w

  -- the face on top
  abbrev j : ℕ
  j = get_or w₁ (3 + n + top) 0

  -- those below it
  abbrev rest : List ℕ
  rest = stack_of w (3 + n) top

  -- one was on top
  is_top : get_or w 0 0 ≡ suc top
  is_top = let s = p.some in omega arith

  -- it still stands there
  same_face : j ≡ get_or w (3 + n + top) 0
  same_face = get_or-set_other w 0 (3 + n + top) top 0 (λ z. absurd (omega arith))

  -- the stack is the face and those below it
  stack_is : v.stack ≡ j ∷ rest
  unfolding walk_of stack_of
  stack_is = ap (stack_of w (3 + n)) is_top ∙ ap (λ x. x ∷ stack_of w (3 + n) top) (sym same_face)

  -- a face on the stack is visited
  seen : Seen n v j
  seen = (rw stack_is at p.going.ready.sound.stacked).0

  -- they hold
  pub pop_bounds : Bounds w n top
  pop_bounds =
      let f = p.going.ready.fits in
      record { few = f.few; some = p.some; most = p.going.ready.top; fit = f.fit; fit_after = omega (arith, f.fit, length-set w 0 top); face = seen.0 }

  -- the walk without it
  walk_popped : walk_of (faces_of xs) n w₁ ≡ popped rest v
  unfolding walk_of popped
  walk_popped =
      let f = p.going.ready.fits.fit in
      let l = length-set w 0 top in
      let s : part w₁ 3 n ≡ part w 3 n = part_eq w₁ w 3 3 n (omega arith) (omega arith) (λ i q. get_or-set_other w 0 (3 + i) top 0 (λ z. absurd (omega arith))) in
      let t : get_or w₁ 0 0 ≡ top = get_or-set_same w 0 top 0 (omega arith) in
      let k : stack_of w₁ (3 + n) (get_or w₁ 0 0) ≡ stack_of w (3 + n) top =
      ap (stack_of w₁ (3 + n)) t ∙ stack_same w w₁ (3 + n) top (λ i q. get_or-set_other w 0 (3 + n + i) top 0 (λ z. absurd (omega arith)))
      in
      let x : get_or w₁ 1 0 ≡ get_or w 1 0 = get_or-set_other w 0 1 top 0 (λ z. absurd (omega arith)) in
      let m : get_or w₁ 2 0 ≡ get_or w 2 0 = get_or-set_other w 0 2 top 0 (λ z. absurd (omega arith)) in
      rw (s, k, x, m)

  -- one entry is changed
  only_top : Only 0 (3 + 2 * n) w w₁
  only_top = only_set w 0 top (omega arith) (omega arith)

  -- so the face may cross its edges
  pub face_asks : FaceAsks w₁ xs n j
  face_asks =
      let g = p.going in
      let f = g.ready.fits.fit in
      let t : get_or w₁ 0 0 ≡ top = get_or-set_same w 0 top 0 (omega arith) in
      let s = later_to (later_popped rest v) walk_popped in
      record {
        going = going_kept s g (ready_as g.ready (length-set w 0 top) (omega (arith, g.ready.top)) walk_popped (popped_sound g.ready.sound j rest stack_is)) only_top;
        here = seen.0;
        seen = (s.stay j seen.1).0;
      }

  -- one turn of the rule
  turn_is : (k : ℕ) → run (suc k) (j ∷ rest) v ≡ (let after = through (across j) (popped rest v) (steps (face v.faces j)) in run k after.stack after)
  unfolding run
  turn_is k = refl

  -- of the face as it stands
  same_steps : through (across j) (popped rest v) (steps (face (popped rest v).faces j)) ≡ through (across j) (popped rest v) (steps (face v.faces j))
  unfolding popped
  same_steps = refl

  -- and has
  pub pop_gives : {w₂ : List ℕ} → FaceGives w₁ xs n j w₂ → PopGives w xs n w₂
  pop_gives g =
      record {
        only = only_both (only_more (omega arith) (omega arith) only_top) g.only;
        going = g.going;
        runs = λ k.
            ap (λ u. run k u.stack u) (g.walk ∙ ap (λ u. through (across j) u (steps (face u.faces j))) walk_popped ∙ same_steps)
            ∙ sym (turn_is k)
            ∙ ap (λ s. run (suc k) s v) (sym stack_is);
      }

-- ---- turns until the stack is empty

-- an empty stack ends the run
run_empty : (k : ℕ) (v : Walk) → run k [] v ≡ v
unfolding run
run_empty zero v = refl
run_empty (suc k) v = refl

-- i turns are done
pub record EmptyInv (w₀ xs : List ℕ) (n : ℕ) (w : List ℕ) (i : ℕ) : Type 0 where
  pub only : Only 0 (3 + 11 * n) w₀ w
  pub going : Going w xs n
  pub runs : run (n - i) (walk_of (faces_of xs) n w).stack (walk_of (faces_of xs) n w) ≡ run n (walk_of (faces_of xs) n w₀).stack (walk_of (faces_of xs) n w₀)

-- none is at first
pub empty_begin : {w xs : List ℕ} {n : ℕ} → EmptyAsks w xs n → EmptyInv w xs n w 0
empty_begin {w} {xs} {n} p = record { only = only_none 0 (3 + 11 * n) w; going = p.going; runs = let e : n - 0 ≡ n = omega arith in rw e }

module _ {w₀ xs : List ℕ} {n : ℕ} {w : List ℕ} {i : ℕ} (u : EmptyInv w₀ xs n w i) where
  -- the stack is empty
  pub empty_stop : get_or w 0 0 ≡ 0 → EmptyGives w₀ xs n w
  unfolding walk_of stack_of
  empty_stop z =
      let v = walk_of (faces_of xs) n w in
      let e : v.stack ≡ [] = ap (stack_of w (3 + n)) z in
      record { only = u.only; going = u.going; walk = sym (run_empty (n - i) v) ∙ ap (λ s. run (n - i) s v) (sym e) ∙ u.runs }

  -- no turn is left
  pub empty_done : n ≤ i → EmptyGives w₀ xs n w
  unfolding run
  empty_done l =
      let v = walk_of (faces_of xs) n w in
      let e : n - i ≡ 0 = omega arith in
      record { only = u.only; going = u.going; walk = ap (λ k. run k v.stack v) (sym e) ∙ u.runs }

  -- a face is on the stack
  pub empty_ask : (get_or w 0 0 ≡ 0 → ⊥) → PopAsks w xs n
  empty_ask z = record { going = u.going; some = omega arith }

  -- one turn more is done
  pub empty_again : i < n → {w' : List ℕ} → PopGives w xs n w' → EmptyInv w₀ xs n w' (i + 1)
  empty_again h {w'} g =
      let e : suc (n - (i + 1)) ≡ n - i = omega arith in
      record {
        only = only_both u.only g.only;
        going = g.going;
        runs = g.runs (n - (i + 1)) ∙ ap (λ k. run k (walk_of (faces_of xs) n w).stack (walk_of (faces_of xs) n w)) e ∙ u.runs;
      }
