-- The filter's limits, taken apart: what each test says of a patch. Assumes nothing.
use mathlib.Core.Path.{◌≡◌, refl, sym, ap, ◌∙◌}
use mathlib.Core.Bool.{Bool, true, false, ◌||◌}
use mathlib.Core.List.{List, [], ◌∷◌, map, map-append}
use Prim.Native.Nat.{ℕ, zero, suc, ◌+◌, ◌≤◌, ◌<◌}
use native.Mathlib.Numerals.{add-one}
use native.Mathlib.Omega.{arith}
use lib.Ieee.{Float, binary64, of_bits, lt}
use Rattle.rules.specs.Lists.{below, through}
use Rattle.rules.specs.Mesh.{zero64}
use Rattle.rules.specs.Float.{◌⊗◌}
use Rattle.rules.specs.Float as float-rule
use Rattle.rules.specs.Patches as rule
use Rattle.rule_laws.proofs.Lists.{through_append}
use Rattle.patch_rank.specs.Rank.{area_at}
use Rattle.patches.specs.Answers.{largest_in}

-- ---- the diagonal

-- 0 for an empty patch
pub diagonal_empty : (n : ℕ) (r : rule.Patch) → n ≡ 0 → of_bits binary64 0 ≡ rule.diagonal n r
unfolding rule.diagonal of_bits
diagonal_empty n r e = rw e

-- else the norm of the difference
pub diagonal_full : (n : ℕ) (r : rule.Patch) → (n ≡ 0 → ⊥) → float-rule.norm (float-rule.difference r.high r.low) ≡ rule.diagonal n r
unfolding rule.diagonal
diagonal_full zero r h = absurd (h refl)
diagonal_full (suc n) r h = refl

-- ---- the largest area

-- that of the first k patches
pub record Largest (xs : List Float) (C : ℕ) (held : Float) (k : ℕ) : Type 0 where
  pub at_most : k ≤ C
  pub found : held ≡ largest_in xs k

module _ (xs : List Float) (C : ℕ) where
  -- of none
  pub largest_begin : Largest xs C (of_bits binary64 0) 0
  unfolding of_bits below through
  largest_begin = record { at_most = omega arith; found = refl }

  -- of one more
  step : (k : ℕ) → largest_in xs (k + 1) ≡ rule.higher (largest_in xs k) (area_at xs k)
  unfolding below through
  step k =
      rw (add-one k)
      (ap (through rule.higher zero64) (map-append (area_at xs) (below k) (k ∷ []))
      ∙ through_append rule.higher zero64 (map (area_at xs) (below k)) (area_at xs k ∷ []))

  module _ {held : Float} {k : ℕ} (v : Largest xs C held k) (h : k < C) where
    -- larger than the one held
    pub largest_more : lt held (area_at xs k) ≡ true → Largest xs C (area_at xs k) (k + 1)
    unfolding rule.higher
    largest_more e = record { at_most = omega arith; found = sym (step k ∙ rw (← v.found, e)) }

    -- not larger
    pub largest_same : lt held (area_at xs k) ≡ false → Largest xs C held (k + 1)
    unfolding rule.higher
    largest_same e = record { at_most = omega arith; found = sym (step k ∙ rw (← v.found, e)) }

  -- of all
  pub largest_done : {held : Float} {k : ℕ} → Largest xs C held k → C ≤ k → held ≡ largest_in xs C
  largest_done {held} {k} v h = let e : k ≡ C = omega (arith, v.at_most) in rw (← e) v.found

-- ---- four tests, one after the other

module _ (a b c d : Bool) where
  -- the first decides
  pub first_test : a ≡ true → true ≡ (a || b || c || d)
  first_test e = rw e

  -- the second
  pub second_test : a ≡ false → b ≡ true → true ≡ (a || b || c || d)
  second_test e f = rw (e, f)

  -- the third
  pub third_test : a ≡ false → b ≡ false → c ≡ true → true ≡ (a || b || c || d)
  third_test e f g = rw (e, f, g)

  -- the last
  pub last_test : a ≡ false → b ≡ false → c ≡ false → d ≡ (a || b || c || d)
  last_test e f g = rw (e, f, g)
