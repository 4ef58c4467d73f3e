-- Of points that number 4 does not refuse and of no more faces than number 2 allows, every patch's area is a number, not negative and not infinite, and
-- so is the largest; so rank by area is a strict total order. Assumes nothing.
use mathlib.Core.Path.{◌≡◌, refl, sym, ◌∙◌, subst}
use mathlib.Core.Bool.{Bool, true, false, cond}
use mathlib.Core.List.{List, [], ◌∷◌, map}
use Prim.Native.Nat.{ℕ, zero, suc, ◌+◌, ◌*◌, ◌^◌, ◌≤◌}
use native.Mathlib.Nat.{le_trans, le_of_eq, lt_of_le_of_lt, mul-le-mul_right, add-zero, zero-add}
use native.Mathlib.Omega.{arith}
use lib.Dec.{eqb, lit<, lit≤}
use lib.ListN.{length, get_or, length-map}
use lib.Ieee.{Float, binary64, lt}
use Rattle.rules.specs.Lists.{below, filter, through}
use Rattle.rules.specs.Mesh.{Point, Face, point, face, corners, zero64}
use Rattle.rules.specs.Refusal.{ok, no4, no_patch, most_faces}
use Rattle.rules.specs.Float.{area, ◌⊕◌}
use Rattle.rules.specs.Rank.{outranks}
use Rattle.rules.specs.Patches.{Patch, empty, widened, with_face, patch, patches, area_of, higher, largest}
use Rattle.rule_laws.proofs.Lists.{length_below}
use Rattle.rule_laws.proofs.Counting.{filter_le}
use Rattle.rule_laws.proofs.Bounds.{Upto}
use Rattle.rule_laws.proofs.FaceBounds.{zero_upto}
use Rattle.rule_laws.proofs.Totals.{Total, total_upto, add_total}
use Rattle.rule_laws.proofs.Ranks.{StrictTotal, rank_is_order}
use Rattle.rule_laws.proofs.Finite.{area_bounded}

-- ---- the area among a record's numbers

-- the box takes in points: the area stays
widened_area : (l : List Point) (r : Patch) → (through widened r l).area ≡ r.area
unfolding through widened
widened_area [] r = refl
widened_area (p ∷ l) r = widened_area l (widened r p)

-- a face more: its area is added
with_face_area : (ps : List Point) (r : Patch) (f : Face) → (with_face ps r f).area ≡ r.area ⊕ area ps f
unfolding with_face
with_face_area ps r f = widened_area (map (point ps) (corners f)) (record { area = r.area ⊕ area ps f; low = r.low; high = r.high })

-- the larger of two numbers is one of them
higher_upto : {k : ℕ} (held x : Float) → Upto binary64 k held → Upto binary64 k x → Upto binary64 k (higher held x)
unfolding higher
higher_upto {k} held x p q = go (lt held x)
  where
    go : (b : Bool) → Upto binary64 k (cond b x held)
    go true = q
    go false = p

module _ (ps : List Point) (fine : no4 ps ≡ ok) where
  -- the total after a list of faces, counted by their number
  patch-total :
      (l : List Face) (r : Patch) (q : ℕ) → Total binary64 q 1277 r.area → q + length l ≤ most_faces
      → Total binary64 (q + length l) 1277 (through (with_face ps) r l).area
  unfolding through
  patch-total [] r q t h = subst (λ (n : ℕ). Total binary64 n 1277 r.area) (sym (add-zero q)) t
  patch-total (f ∷ l) r q t h =
      subst (λ (n : ℕ). Total binary64 n 1277 (through (with_face ps) (with_face ps r f) l).area) (omega arith)
      (patch-total l (with_face ps r f) (suc q)
      (subst (λ (x : Float). Total binary64 (suc q) 1277 x) (sym (with_face_area ps r f))
      (add_total t (area_bounded ps fine f) (lt_of_le_of_lt (small q (length l) h) (lit< tt))
      (lt_of_le_of_lt (mul-le-mul_right (2 ^ 1277) (small q (length l) h)) (lit< tt))))
      (omega arith))
    where
      small : (q n : ℕ) → q + suc n ≤ most_faces → suc q ≤ most_faces
      small q n h = omega arith

  module _ (fs : List Face) (labels : List ℕ) (few : length fs ≤ most_faces) where
    -- a patch's area is not NaN, not negative, and at most 2^223
    pub patch_bounded : (k : ℕ) → Upto binary64 1297 (patch ps fs labels k).area
    unfolding patch empty
    patch_bounded k =
        total_upto 1297 (le_trans (mul-le-mul_right (2 ^ 1277) fewer) (lit≤ tt)) (patch-total l empty 0 empty_total fewer)
      where
        ids : List ℕ
        ids = filter (λ i. eqb (get_or labels i no_patch) k) (below (length fs))

        l : List Face
        l = map (face fs) ids

        fewer : 0 + length l ≤ most_faces
        fewer =
            le_trans (le_of_eq (zero-add (length l) ∙ length-map ids (face fs)))
            (le_trans (filter_le (λ i. eqb (get_or labels i no_patch) k) (below (length fs))) (le_trans (le_of_eq (length_below (length fs))) few))

        empty_total : Total binary64 0 1277 empty.area
        empty_total = record { is_plain = tt; small = none (2 ^ 1074) (0 * 2 ^ 1277 * 1) }
          where
            none : (a b : ℕ) → 0 * a ≤ b
            none a b = omega arith

    -- the same by place in a list of patches; past its end the area is 0
    by_place : (ks : List ℕ) (k : ℕ) → Upto binary64 1297 (area_of (map (patch ps fs labels) ks) k)
    unfolding area_of
    by_place [] k = unfold empty in (zero_upto 1297)
    by_place (n ∷ ks) zero = patch_bounded n
    by_place (n ∷ ks) (suc k) = by_place ks k

    -- the largest of the areas of a list of patches and one number more
    largest_from :
        (ks : List ℕ) (held : Float) → Upto binary64 1297 held → Upto binary64 1297 (through higher held (map (λ r. r.area) (map (patch ps fs labels) ks)))
    unfolding through
    largest_from [] held p = p
    largest_from (n ∷ ks) held p =
        largest_from ks (higher held (patch ps fs labels n).area) (higher_upto held (patch ps fs labels n).area p (patch_bounded n))

    -- the area of patch k among C patches, for any k
    pub areas_bounded : (C k : ℕ) → Upto binary64 1297 (area_of (patches ps fs labels C) k)
    unfolding patches
    areas_bounded C k = by_place (below C) k

    -- the largest area of all C patches
    pub largest_bounded : (C : ℕ) → Upto binary64 1297 (largest (patches ps fs labels C))
    unfolding largest patches
    largest_bounded C = largest_from (below C) zero64 (zero_upto 1297)

    -- rank by area is a strict total order
    pub area_rank : (C : ℕ) → StrictTotal (outranks (area_of (patches ps fs labels C)))
    area_rank C = rank_is_order (area_of (patches ps fs labels C)) (λ k. (areas_bounded C k).is_plain)
