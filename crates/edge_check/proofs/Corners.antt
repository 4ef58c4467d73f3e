-- What a scan of the faces knows of repeated corners: of one face, and of all. Assumes nothing.
use mathlib.Core.Path.{◌≡◌, refl, sym, subst}
use mathlib.Core.Bool.{Bool, true, false, not}
use mathlib.Core.List.{List}
use Prim.Native.Nat.{ℕ, ◌+◌, ◌*◌, ◌/◌, ◌≤◌, ◌<◌}
use native.Mathlib.Omega.{arith}
use borrow.Author.Tests.{eq-eqb, ne_eqb}
use lib.ListN.{length, get_or}
use lib.Dec.{T, eqb}
use lib.Ieee.Bits.{is_true}
use Rattle.rules.specs.Lists.{all}
use Rattle.rules.specs.Mesh.{Face, faces_of, face}
use Rattle.rules.specs.Float.{repeats}
use Rattle.rule_laws.proofs.Rising.{all_at, all_from}
use Rattle.rule_laws.proofs.Members.{all_elim, all_intro}
use Rattle.rule_laws.proofs.Flat.{face_in, length_faces}
use Rattle.refuse.proofs.Scans.{Clean}

-- ---- one face, by its corners in the flat list

module _ (xs : List ℕ) (i : ℕ) (h : i < length xs / 3) where
  -- corners 0 and 1 are the same
  pub first_two : get_or xs (3 * i) 0 ≡ get_or xs (3 * i + 1) 0 → true ≡ repeats (face (faces_of xs) i)
  unfolding repeats
  first_two e = rw (face_in xs i h, eq-eqb _ _ e)

  -- corners 1 and 2 are
  pub last_two : (get_or xs (3 * i) 0 ≡ get_or xs (3 * i + 1) 0 → ⊥) → get_or xs (3 * i + 1) 0 ≡ get_or xs (3 * i + 2) 0 → true ≡ repeats (face (faces_of xs) i)
  unfolding repeats
  last_two n e = rw (face_in xs i h, ne_eqb _ _ n, eq-eqb _ _ e)

  -- else corners 2 and 0 decide
  pub outer_two :
      (get_or xs (3 * i) 0 ≡ get_or xs (3 * i + 1) 0 → ⊥) → (get_or xs (3 * i + 1) 0 ≡ get_or xs (3 * i + 2) 0 → ⊥)
      → eqb (get_or xs (3 * i + 2) 0) (get_or xs (3 * i) 0) ≡ repeats (face (faces_of xs) i)
  unfolding repeats
  outer_two n k = rw (face_in xs i h, ne_eqb _ _ n, ne_eqb _ _ k)

-- ---- all faces

-- whether face j of a flat list repeats a corner
abbrev pub repeats_at : List ℕ → ℕ → Bool
repeats_at xs j = repeats (face (faces_of xs) j)

-- what a read past the end of a list of faces gives
none : Face
none = record { a = 0; b = 0; c = 0; origin = 0 }

module _ (xs : List ℕ) (i : ℕ) where
  -- none of all faces does
  pub all_distinct : Clean (repeats_at xs) (length xs / 3) i → length xs / 3 ≤ i → true ≡ all (λ f. not (repeats f)) (faces_of xs)
  unfolding face none
  all_distinct v h =
      sym (is_true (all (λ f. not (repeats f)) (faces_of xs))
      (all_intro (λ f. not (repeats f)) (faces_of xs)
      (all_from (λ f. T (not (repeats f))) none (faces_of xs) (λ j l. subst (λ b. T (not b)) (sym (v.none j (omega (arith, length_faces xs)))) tt))))

  -- face i does
  pub one_repeats : i < length xs / 3 → repeats_at xs i ≡ true → false ≡ all (λ f. not (repeats f)) (faces_of xs)
  unfolding face none
  one_repeats h t = go (all (λ f. not (repeats f)) (faces_of xs)) refl
    where
      go : (b : Bool) → all (λ f. not (repeats f)) (faces_of xs) ≡ b → false ≡ b
      go false e = refl
      go true e =
          absurd (subst (λ b. T (not b)) t
          (all_at (λ f. T (not (repeats f))) (faces_of xs) none i (all_elim (λ f. not (repeats f)) (faces_of xs) (subst T (sym e) tt)) (omega (arith, length_faces xs))))
