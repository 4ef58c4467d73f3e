-- What the scans of a slice know: of one point, face or label, and of all before i. Assumes nothing.
use mathlib.Core.Path.{◌≡◌, refl, sym}
use mathlib.Core.Bool.{Bool, true, false, not, ◌||◌}
use mathlib.Core.List.{List}
use Prim.Native.Nat.{ℕ, ◌+◌, ◌*◌, ◌/◌, ◌≤◌, ◌<◌}
use native.Mathlib.Nat.{eq-or-lt_of_le, le_of_suc-le-suc}
use native.Mathlib.Omega.{arith}
use mathlib.Core.Logic.{⊎_elim}
use borrow.Author.Tests.{le-leb, lt-leb, eq-eqb, ne_eqb, ltb-true, ltb-false}
use lib.ListN.{length, get_or}
use lib.Dec.{leb, ltb}
use lib.Ieee.{Float, nan}
use Rattle.rules.specs.Lists.{all, any}
use Rattle.rules.specs.Mesh.{points_of, faces_of, point, face, zero64}
use Rattle.rules.specs.Refusal.{ok, no, in_domain, no4, no5, no9, no_patch}
use Rattle.rule_laws.proofs.Flat.{point_in, face_in, length_points, length_faces}
use Rattle.rule_laws.proofs.Firsts.{none_at_fault, at_fault}
use Rattle.refuse.specs.Verdicts.{far, astray, strange}

-- ---- one point: it is far if one of its coordinates is
module _ (xs : List Float) (i : ℕ) (h : i < length xs / 3) where
  -- all three inside
  pub near :
      in_domain (get_or xs (3 * i) nan) ≡ true → in_domain (get_or xs (3 * i + 1) nan) ≡ true → in_domain (get_or xs (3 * i + 2) nan) ≡ true
      → false ≡ far (point (points_of xs) i)
  unfolding all
  near a b c = rw (point_in xs nan i h, a, b, c)

  -- x outside
  pub far_x : in_domain (get_or xs (3 * i) nan) ≡ false → true ≡ far (point (points_of xs) i)
  unfolding all
  far_x a = rw (point_in xs nan i h, a)

  -- y outside
  pub far_y : in_domain (get_or xs (3 * i) nan) ≡ true → in_domain (get_or xs (3 * i + 1) nan) ≡ false → true ≡ far (point (points_of xs) i)
  unfolding all
  far_y a b = rw (point_in xs nan i h, a, b)

  -- z outside
  pub far_z :
      in_domain (get_or xs (3 * i) nan) ≡ true → in_domain (get_or xs (3 * i + 1) nan) ≡ true → in_domain (get_or xs (3 * i + 2) nan) ≡ false
      → true ≡ far (point (points_of xs) i)
  unfolding all
  far_z a b c = rw (point_in xs nan i h, a, b, c)

-- ---- one face

-- the end of the list adds nothing
or_false : (b : Bool) → b ≡ (b || false)
or_false true = refl
or_false false = refl

module _ (P : ℕ) (xs : List ℕ) (i : ℕ) (h : i < length xs / 3) where
  -- corner 0
  pub astray_a : P ≤ get_or xs (3 * i) 0 → true ≡ astray P (face (faces_of xs) i)
  unfolding any
  astray_a a = rw (face_in xs i h, le-leb _ _ a)

  -- corner 1
  pub astray_b : get_or xs (3 * i) 0 < P → P ≤ get_or xs (3 * i + 1) 0 → true ≡ astray P (face (faces_of xs) i)
  unfolding any
  astray_b a b = rw (face_in xs i h, lt-leb _ _ a, le-leb _ _ b)

  -- corner 2 decides
  pub astray_c : get_or xs (3 * i) 0 < P → get_or xs (3 * i + 1) 0 < P → leb P (get_or xs (3 * i + 2) 0) ≡ astray P (face (faces_of xs) i)
  unfolding any
  astray_c a b = rw (face_in xs i h, lt-leb _ _ a, lt-leb _ _ b) (or_false (leb P (get_or xs (3 * i + 2) 0)))

-- ---- all before i are without fault

-- what a loop from the front knows of the n elements
pub record Clean (at : ℕ → Bool) (n i : ℕ) : Type 0 where
  pub at_most : i ≤ n
  pub none : (j : ℕ) → j < i → at j ≡ false

-- before the first
pub clean_begin : (at : ℕ → Bool) (n : ℕ) → Clean at n 0
clean_begin at n = record { at_most = omega arith; none = λ j l. absurd (omega arith) }

-- one more without fault
pub clean_more : (at : ℕ → Bool) (n i : ℕ) → Clean at n i → i < n → at i ≡ false → Clean at n (i + 1)
clean_more at n i v h e =
    record {
      at_most = omega arith;
      none = λ j l. ⊎_elim (λ (q : j ≡ i). rw q e) (λ (q : j < i). v.none j q) (eq-or-lt_of_le (le_of_suc-le-suc (omega arith)));
    }

-- the faults of 4, 5 and 9 by place
abbrev pub far_at : List Float → ℕ → Bool
far_at xs j = far (point (points_of xs) j)

-- a face with a corner >= P
abbrev pub astray_at : ℕ → List ℕ → ℕ → Bool
astray_at P xs j = astray P (face (faces_of xs) j)

-- an unknown label
abbrev pub strange_at : ℕ → List ℕ → ℕ → Bool
strange_at C xs j = strange C (get_or xs j 0)

-- 4: no point at fault
pub no4_none : (xs : List Float) (i : ℕ) → Clean (far_at xs) (length xs / 3) i → length xs / 3 ≤ i → ok ≡ no4 (points_of xs)
unfolding no4 point
no4_none xs i v h = sym (none_at_fault far (record { x = zero64; y = zero64; z = zero64 }) 4 (points_of xs) (λ j l. v.none j (let e = length_points xs in omega arith)))

-- 4: point i is the first at fault
pub no4_at : (xs : List Float) (i : ℕ) → Clean (far_at xs) (length xs / 3) i → i < length xs / 3 → far_at xs i ≡ true → no 4 i ≡ no4 (points_of xs)
unfolding no4 point
no4_at xs i v h t = sym (at_fault far (record { x = zero64; y = zero64; z = zero64 }) 4 (points_of xs) i (let e = length_points xs in omega arith) v.none t)

-- 5: no face at fault
pub no5_none : (P : ℕ) (xs : List ℕ) (i : ℕ) → Clean (astray_at P xs) (length xs / 3) i → length xs / 3 ≤ i → ok ≡ no5 P (faces_of xs)
unfolding no5 face
no5_none P xs i v h = sym (none_at_fault (astray P) (record { a = 0; b = 0; c = 0; origin = 0 }) 5 (faces_of xs) (λ j l. v.none j (let e = length_faces xs in omega arith)))

-- 5: face i is the first at fault
pub no5_at : (P : ℕ) (xs : List ℕ) (i : ℕ) → Clean (astray_at P xs) (length xs / 3) i → i < length xs / 3 → astray_at P xs i ≡ true → no 5 i ≡ no5 P (faces_of xs)
unfolding no5 face
no5_at P xs i v h t = sym (at_fault (astray P) (record { a = 0; b = 0; c = 0; origin = 0 }) 5 (faces_of xs) i (let e = length_faces xs in omega arith) v.none t)

-- 9: no label at fault
pub no9_none : (C : ℕ) (xs : List ℕ) (i : ℕ) → Clean (strange_at C xs) (length xs) i → length xs ≤ i → ok ≡ no9 C xs
unfolding no9 strange
no9_none C xs i v h = sym (none_at_fault (strange C) 0 9 xs (λ j l. v.none j (omega arith)))

-- 9: label i is the first at fault
pub no9_at : (C : ℕ) (xs : List ℕ) (i : ℕ) → Clean (strange_at C xs) (length xs) i → i < length xs → strange_at C xs i ≡ true → no 9 i ≡ no9 C xs
unfolding no9 strange
no9_at C xs i v h t = sym (at_fault (strange C) 0 9 xs i h v.none t)

-- ---- one label

-- the no-patch value is known
pub strange_none : (C l : ℕ) → l ≡ no_patch → false ≡ strange C l
unfolding strange
strange_none C l e = rw (eq-eqb l no_patch e)

-- any other is known if it is below the patch count
pub strange_is : (C l : ℕ) → (l ≡ no_patch → ⊥) → leb C l ≡ strange C l
unfolding strange
strange_is C l n = rw (ne_eqb l no_patch n) (flip C l)
  where
    flip : (C l : ℕ) → leb C l ≡ not (ltb l C)
    flip C l = go (ltb l C) refl
      where
        go : (b : Bool) → ltb l C ≡ b → leb C l ≡ not b
        go true e = lt-leb C l (ltb-true l C e)
        go false e = le-leb C l (ltb-false l C e)
