-- The largest work room found so far, and that of the meshes that are left: together that of all. Assumes nothing.
use mathlib.Core.Path.{◌≡◌, refl, ap, ap₂, ◌∙◌}
use mathlib.Core.List.{List}
use Prim.Native.Nat.{ℕ, ◌+◌, ◌*◌, ◌≤◌, ◌<◌, max}
use native.Mathlib.Numerals.{add-one}
use native.Mathlib.Omega.{arith}
use lib.ListN.{length, get_or, drop, drop_of_length-le}
use lib.Seq.{drop-cons}
use Rattle.rules.specs.Rooms.{work_room}
use Rattle.rules.specs.PanelCall.{largest}

-- the meshes from place k on: that one, and those behind it
pub largest_from :
    (ps fs : List ℕ) (k : ℕ) → k < length ps → k < length fs
    → largest (drop k ps) (drop k fs) ≡ max (16 * get_or ps k 0 + 64 * get_or fs k 0 + 64) (largest (drop (k + 1) ps) (drop (k + 1) fs))
unfolding largest work_room
largest_from ps fs k p f = ap₂ largest (drop-cons ps k 0 p) (drop-cons fs k 0 f) ∙ rw (add-one k) refl

-- after k meshes
pub record Widest (ps fs : List ℕ) (most k : ℕ) : Type 0 where
  pub at_most : k ≤ length ps
  pub most_is : max most (largest (drop k ps) (drop k fs)) ≡ largest ps fs

-- before the first
pub begin : (ps fs : List ℕ) → Widest ps fs 0 0
begin ps fs = record { at_most = omega arith; most_is = omega arith }

module _ {ps fs : List ℕ} {most k : ℕ} (e : length ps ≡ length fs) (v : Widest ps fs most k) where
  -- one that is larger
  pub larger : k < length ps → most < 16 * get_or ps k 0 + 64 * get_or fs k 0 + 64 → Widest ps fs (16 * get_or ps k 0 + 64 * get_or fs k 0 + 64) (k + 1)
  larger h l = record { at_most = omega arith; most_is = omega (arith, v.most_is, largest_from ps fs k h (omega arith)) }

  -- one that is not
  pub not_larger : k < length ps → 16 * get_or ps k 0 + 64 * get_or fs k 0 + 64 ≤ most → Widest ps fs most (k + 1)
  not_larger h l = record { at_most = omega arith; most_is = omega (arith, v.most_is, largest_from ps fs k h (omega arith)) }

  -- after the last
  pub done : length ps ≤ k → most ≡ largest ps fs
  unfolding largest
  done h = let z : largest (drop k ps) (drop k fs) ≡ 0 = ap (λ l. largest l (drop k fs)) (drop_of_length-le ps h) in omega (arith, v.most_is)
