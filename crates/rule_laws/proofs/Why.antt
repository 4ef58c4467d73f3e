-- Document 02, item 2: a face that leaves in pass 1 repeats a corner or is thin, and is never counted as both. Assumes nothing.
use mathlib.Core.Path.{◌≡◌, refl}
use mathlib.Core.Bool.{Bool, true, false, not, ◌&&◌, ◌||◌, cond}
use mathlib.Core.List.{List}
use Prim.Native.Nat.{ℕ, ◌+◌}
use native.Mathlib.Omega.{arith}
use lib.ListN.{length}
use lib.Ieee.{Float}
use Rattle.rules.specs.Lists.{below, count, leave}
use Rattle.rules.specs.Mesh.{Point, Face, point, face}
use Rattle.rules.specs.Float.{Shape, good, repeated, thin, repeats, flat, shape, is_repeated, is_thin}
use Rattle.rules.specs.Pass1.{repeated1, thin1, marked1}
use Rattle.rule_laws.proofs.Lists.{leave_length}
use Rattle.rule_laws.proofs.Counting.{count_either}

module _ (s : Float) (ps : List Point) (fs : List Face) (i : ℕ) where
  abbrev f : Face
  f = face fs i

  abbrev thin_at : Bool
  thin_at = flat s (point ps f.a) (point ps f.b) (point ps f.c)

  -- counted as repeated: two corners are the same point's number
  pub repeated_is : repeated1 s ps fs i ≡ repeats f
  unfolding repeated1 shape is_repeated
  repeated_is = go (repeats f) thin_at
    where
      go : (r t : Bool) → is_repeated (cond r repeated (cond t thin good)) ≡ r
      go true t = refl
      go false true = refl
      go false false = refl

  -- counted as thin: the corners are three, and the sine is not above s
  pub thin_is : thin1 s ps fs i ≡ not (repeats f) && thin_at
  unfolding thin1 shape is_thin
  thin_is = go (repeats f) thin_at
    where
      go : (r t : Bool) → is_thin (cond r repeated (cond t thin good)) ≡ not r && t
      go true t = refl
      go false true = refl
      go false false = refl

  -- it leaves by document 01's sentence: two corners equal, or the sine not above s
  pub marked_is : marked1 s ps fs i ≡ repeats f || thin_at
  unfolding marked1
  marked_is = rw (repeated_is, thin_is) (go (repeats f) thin_at)
    where
      go : (r t : Bool) → r || not r && t ≡ r || t
      go true t = refl
      go false t = refl

  -- no face is both
  pub never_both : (repeated1 s ps fs i && thin1 s ps fs i) ≡ false
  unfolding repeated1 thin1 is_repeated is_thin
  never_both = go (shape s ps f)
    where
      go : (x : Shape) → (is_repeated x && is_thin x) ≡ false
      go good = refl
      go repeated = refl
      go thin = refl

-- both counts together are the faces that leave
pub both_counts :
    (s : Float) (ps : List Point) (fs : List Face) (xs : List ℕ)
    → count (marked1 s ps fs) xs ≡ count (repeated1 s ps fs) xs + count (thin1 s ps fs) xs
unfolding marked1
both_counts s ps fs xs = count_either (repeated1 s ps fs) (thin1 s ps fs) (never_both s ps fs) xs

-- the faces are those that stay, those that repeat a corner and those that are thin
pub parted_by_1 :
    (s : Float) (ps : List Point) (fs : List Face)
    → length fs ≡ length (leave (marked1 s ps fs) fs) + (count (repeated1 s ps fs) (below (length fs)) + count (thin1 s ps fs) (below (length fs)))
parted_by_1 s ps fs = omega (arith, leave_length (marked1 s ps fs) fs, both_counts s ps fs (below (length fs)))
