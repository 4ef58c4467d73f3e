-- The flags of the faces passed are right, and nothing else is changed: pass 1's loop, as a fact of lists. Assumes nothing.
use mathlib.Core.Path.{◌≡◌, refl, sym, ap, ap₂, ◌∙◌}
use mathlib.Core.Bool.{Bool, true, false, ◌||◌}
use mathlib.Core.List.{List}
use Prim.Native.Nat.{ℕ, ◌+◌, ◌*◌, ◌≤◌, ◌<◌}
use native.Mathlib.Nat.{zero-add}
use native.Mathlib.Numerals.{add-one}
use native.Mathlib.Omega.{arith}
use mir.Val.{bool_byte}
use lib.Ieee.{Float}
use lib.ListN.{length, get_or, set}
use Rattle.rows.specs.Region.{Only, Holds}
use Rattle.rows.proofs.Regions.{only_none, only_next, holds_none, holds_next}
use Rattle.rules.specs.Lists.{below, filter, count}
use Rattle.rules.specs.Mesh.{Point, Face, points_of, face}
use Rattle.rules.specs.Float.{Shape, repeats, shape, is_repeated, is_thin}
use Rattle.rules.specs.Pass1.{repeated1, thin1, marked1}
use Rattle.rule_laws.proofs.Lists.{count_below}
use Rattle.rule_laws.proofs.Counting.{count_below_le}
use Rattle.measure.specs.Measure.{face_of, Corners}
use Rattle.leaving.specs.Pass.{standing, PassAsks, MarkGives}
use Rattle.leaving.proofs.Standing.{standing_face}
use Rattle.drop_degenerate.specs.Marks.{flag_of}

module _ (s : Float) (ps : List Point) (fs : List Face) (i : ℕ) {x : Shape} where
  -- by what the test finds of a face, it leaves
  leaves : x ≡ shape s ps (face fs i) → is_repeated x || is_thin x ≡ marked1 s ps fs i
  unfolding marked1 repeated1 thin1
  leaves y = ap (λ (z : Shape). is_repeated z || is_thin z) y

  -- and is counted
  counts : x ≡ shape s ps (face fs i) → is_repeated x ≡ repeated1 s ps fs i
  unfolding repeated1
  counts y = ap is_repeated y

-- a flag as a number
flagged : (b : Bool) → bool_byte b ≡ flag_of b
flagged true = refl
flagged false = refl

-- the loop's invariant
pub record Marked (ps : List Float) (s : Float) (xs : List ℕ) (n : ℕ) (w₀ w : List ℕ) (k i : ℕ) : Type 0 where
  pub at_most : i ≤ n
  pub repeated : k ≡ count (repeated1 s (points_of ps) (standing xs n)) (below i)
  pub only : Only 0 i w₀ w
  pub flags : Holds 0 i (λ j. flag_of (marked1 s (points_of ps) (standing xs n) j)) w

-- what a turn may use
pub record Turn (xs : List ℕ) (n : ℕ) (w : List ℕ) (k i : ℕ) : Type 0 where
  pub here : i < n
  pub few_repeated : k ≤ i
  pub fit : 3 * n ≤ length xs
  pub few : n ≤ 1048576
  pub room : n ≤ length w

-- before the first turn no flag is written
pub begin : {ps : List Float} {s : Float} {xs : List ℕ} {n : ℕ} {w : List ℕ} → PassAsks n ps xs n w → Marked ps s xs n w w 0 0
unfolding count below filter
begin p = record { at_most = omega arith; repeated = refl; only = only_none _ _ _; flags = holds_none }

module _ {ps : List Float} {s : Float} {xs : List ℕ} {n : ℕ} {w₀ w : List ℕ} {k i : ℕ} (p : PassAsks n ps xs n w₀) (v : Marked ps s xs n w₀ w k i) where
  -- the bounds of a turn
  pub turn : i < n → Turn xs n w k i
  turn h = let l = v.only.long in record { here = h; few_repeated = omega (arith, v.repeated, count_below_le (repeated1 s (points_of ps) (standing xs n)) i); fit = p.stand.fit; few = p.stand.few; room = omega (arith, p.stand.room) }

  -- the corners that are measured are points
  pub corners_in : i < n → Corners ps (get_or xs (3 * i) 0) (get_or xs (3 * i + 1) 0) (get_or xs (3 * i + 2) 0)
  corners_in h = record { a_in = p.stand.inside (3 * i) (omega arith); b_in = p.stand.inside (3 * i + 1) (omega arith); c_in = p.stand.inside (3 * i + 2) (omega arith) }

  -- what is measured of three corners is the shape of face i, whatever its origin is
  measured : {x : Shape} → i < n → x ≡ shape s (points_of ps) (face_of (get_or xs (3 * i) 0) (get_or xs (3 * i + 1) 0) (get_or xs (3 * i + 2) 0)) → x ≡ shape s (points_of ps) (face (standing xs n) i)
  unfolding shape repeats
  measured h d = d ∙ ap (shape s (points_of ps)) (sym (standing_face xs n p.stand.fit i h))

  -- a turn flags one face more, and counts it if it repeats a corner
  pub again :
      {x : Shape} {f g : ℕ} → i < n → x ≡ shape s (points_of ps) (face_of (get_or xs (3 * i) 0) (get_or xs (3 * i + 1) 0) (get_or xs (3 * i + 2) 0))
      → f ≡ bool_byte (is_repeated x || is_thin x) → g ≡ bool_byte (is_repeated x) → Marked ps s xs n w₀ (set w i f) (k + g) (i + 1)
  again {x} {f} {g} h d e c =
      let t = turn h in
      let y = measured h d in
      record {
        at_most = omega arith;
        repeated = rw (add-one, count_below (repeated1 s (points_of ps) (standing xs n)) i) (ap₂ (λ a b. a + b) v.repeated (c ∙ flagged _ ∙ ap flag_of (counts s (points_of ps) (standing xs n) i y)));
        only = rw zero-add at (only_next {a = 0} f v.only);
        flags = rw zero-add at (holds_next {a = 0} f (omega (arith, t)) (e ∙ flagged _ ∙ ap flag_of (leaves s (points_of ps) (standing xs n) i y)) v.flags);
      }

  -- after n turns every flag is written
  pub done : n ≤ i → MarkGives (marked1 s (points_of ps) (standing xs n)) n n w₀ w 0
  done h =
      let e : i ≡ n = omega arith in
      record { within = omega arith; only = rw e at v.only; flags = rw e at v.flags }

  -- and every repeated one is counted
  pub all_counted : n ≤ i → k ≡ count (repeated1 s (points_of ps) (standing xs n)) (below n)
  all_counted h =
      let e : i ≡ n = omega arith in
      rw e at v.repeated

-- what one face adds to the count is at most one
pub few_more : {g : ℕ} (b : Bool) → g ≡ bool_byte b → g ≤ 1
few_more true e = omega arith
few_more false e = omega arith
