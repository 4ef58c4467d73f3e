-- A face that crosses meets a user of the edge. Assumes nothing.
use mathlib.Core.Path.{◌≡◌, ap, ◌∙◌}
use mathlib.Core.Bool.{Bool, true, false, not, or-false, or-true}
use mathlib.Core.List.{List, [], ◌∷◌}
use Prim.Native.Nat.{ℕ, ◌+◌, ◌*◌, ◌≤◌}
use native.Mathlib.Omega.{arith}
use borrow.Author.Tests.{eq-eqb, ne_eqb}
use lib.Dec.{eqb}
use lib.ListN.{length, get_or, set, length-set}
use lib.Seq.{get_or-set_same, get_or-set_other}
use Rattle.rows.specs.Region.{part}
use Rattle.rows.proofs.Regions.{part_eq, only_none, only_set}
use Rattle.rules.specs.Lists.{filter, through}
use Rattle.rules.specs.Mesh.{Face, faces_of, face}
use Rattle.rules.specs.Steps.{Step, step, opposite, walks}
use Rattle.rules.specs.Pass4.{Walk, remark, meet}
use Rattle.orienting.specs.Reaching.{reach}
use Rattle.orienting.proofs.Room.{remark_sound}
use Rattle.reaching.specs.Walking.{stack_of, walk_of, ReachAsks, ReachGives, MeetGives}
use Rattle.reaching.proofs.Reading.{stack_same, visited_at}
use Rattle.reaching.proofs.Visiting.{ready_as}

-- ---- the rule for one face

-- the face itself is passed over
meet_self : (s : Step) (v : Walk) (j i : ℕ) → i ≡ j → v ≡ through (meet s) v (filter (λ k. not (eqb k j)) (i ∷ []))
unfolding through filter
meet_self s v j i e = rw (eq-eqb i j e)

-- another is met
meet_one : (s : Step) (v : Walk) (j i : ℕ) → (i ≡ j → ⊥) → meet s v i ≡ through (meet s) v (filter (λ k. not (eqb k j)) (i ∷ []))
unfolding through filter
meet_one s v j i e = rw (ne_eqb i j e)

-- one that is unvisited is reached
pub meet_new : (s : Step) (v : Walk) (i : ℕ) → get_or v.visited i false ≡ false → reach s v i ≡ meet s v i
unfolding reach meet
meet_new s v i e = rw e

-- one that is visited marks, if it disagrees
pub meet_seen : (s : Step) (v : Walk) (i : ℕ) → get_or v.visited i false ≡ true → remark (walks (face v.faces i) (opposite s)) v ≡ meet s v i
unfolding meet
meet_seen s v i e = rw e

-- no mark is no change
remark_none : (v : Walk) → v ≡ remark true v
unfolding remark
remark_none v = rw (or-false v.mark)

-- ---- the mark

-- the mark is set, and nothing else
pub marked : (fs : List Face) (n : ℕ) (w : List ℕ) → 3 + 2 * n ≤ length w → walk_of fs n (set w 2 1) ≡ remark false (walk_of fs n w)
unfolding remark walk_of
marked fs n w h =
    let l = length-set w 2 1 in
    let s : part (set w 2 1) 3 n ≡ part w 3 n = part_eq (set w 2 1) w 3 3 n (omega arith) (omega arith) (λ i q. get_or-set_other w 2 (3 + i) 1 0 (λ y. absurd (omega arith))) in
    let top : get_or (set w 2 1) 0 0 ≡ get_or w 0 0 = get_or-set_other w 2 0 1 0 (λ y. absurd (omega arith)) in
    let k : stack_of (set w 2 1) (3 + n) (get_or (set w 2 1) 0 0) ≡ stack_of w (3 + n) (get_or w 0 0) =
    ap (stack_of (set w 2 1) (3 + n)) top ∙ stack_same w (set w 2 1) (3 + n) (get_or w 0 0) (λ i q. get_or-set_other w 2 (3 + n + i) 1 0 (λ y. absurd (omega arith)))
    in
    let x : get_or (set w 2 1) 1 0 ≡ get_or w 1 0 = get_or-set_other w 2 1 1 0 (λ y. absurd (omega arith)) in
    let m : get_or (set w 2 1) 2 0 ≡ 1 = get_or-set_same w 2 1 0 (omega arith) in
    rw (s, k, x, m, or-true (not (eqb (get_or w 2 0) 0)))

-- ---- one face

module _ {w xs : List ℕ} {n i : ℕ} (j x y : ℕ) (p : ReachAsks w xs n i) where
  -- whether it is visited, as its state says
  seen_at : get_or (walk_of (faces_of xs) n w).visited i false ≡ not (eqb (get_or w (3 + i) 0) 0)
  seen_at = visited_at (faces_of xs) n w (omega (arith, p.ready.fits.fit)) i p.here

  -- the face itself
  pub met_self : i ≡ j → MeetGives w xs n j i x y w
  met_self e = record { only = only_none 0 (3 + 2 * n) w; ready = p.ready; walk = meet_self (step x y) (walk_of (faces_of xs) n w) j i e }

  module _ (ne : i ≡ j → ⊥) where
    -- an unvisited one
    pub met_new : get_or w (3 + i) 0 ≡ 0 → {w' : List ℕ} → ReachGives w xs n i x y w' → MeetGives w xs n j i x y w'
    met_new z g =
        let v = walk_of (faces_of xs) n w in
        record {
          only = g.only;
          ready = g.ready;
          walk = g.walk ∙ meet_new (step x y) v i (seen_at ∙ ap not (eq-eqb (get_or w (3 + i) 0) 0 z)) ∙ meet_one (step x y) v j i ne;
        }

    module _ (z : get_or w (3 + i) 0 ≡ 0 → ⊥) where
      -- a mark, if it disagrees
      old_is : {b : Bool} → b ≡ walks (face (walk_of (faces_of xs) n w).faces i) (step y x)
          → remark b (walk_of (faces_of xs) n w) ≡ through (meet (step x y)) (walk_of (faces_of xs) n w) (filter (λ k. not (eqb k j)) (i ∷ []))
      unfolding opposite
      old_is e =
          let v = walk_of (faces_of xs) n w in
          ap (λ b. remark b v) e ∙ meet_seen (step x y) v i (seen_at ∙ ap not (ne_eqb (get_or w (3 + i) 0) 0 z)) ∙ meet_one (step x y) v j i ne

      -- one that agrees
      pub met_agreeing : true ≡ walks (face (walk_of (faces_of xs) n w).faces i) (step y x) → MeetGives w xs n j i x y w
      met_agreeing e = record { only = only_none 0 (3 + 2 * n) w; ready = p.ready; walk = remark_none (walk_of (faces_of xs) n w) ∙ old_is e }

      -- one that disagrees
      pub met_odd : false ≡ walks (face (walk_of (faces_of xs) n w).faces i) (step y x) → MeetGives w xs n j i x y (set w 2 1)
      met_odd e =
          let r = p.ready in
          let m = marked (faces_of xs) n w (omega (arith, r.fits.fit)) in
          record {
            only = only_set w 2 1 (omega arith) (omega arith);
            ready = ready_as r (length-set w 2 1) (omega (arith, get_or-set_other w 2 0 1 0 (λ q. absurd (omega arith)), r.top)) m (remark_sound r.sound false);
            walk = m ∙ old_is e;
          }
