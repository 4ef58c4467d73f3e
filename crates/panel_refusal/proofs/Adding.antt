-- Counts taken one after another off a length: they add up to it exactly where what is left ends as nothing. Assumes nothing.
use mathlib.Core.Path.{◌≡◌, refl, sym, ap, ◌∙◌}
use mathlib.Core.Bool.{Bool, true, false}
use mathlib.Core.List.{List}
use Prim.Native.Nat.{ℕ, ◌+◌, ◌-◌, ◌*◌, ◌≤◌, ◌<◌}
use native.Mathlib.Numerals.{add-one}
use native.Mathlib.Omega.{arith}
use borrow.Author.Tests.{eq-eqb, ne_eqb, eqb-true, eqb-false}
use lib.Dec.{eqb}
use lib.ListN.{length, get_or, drop, drop_of_length-le}
use lib.Seq.{drop-cons}
use Rattle.rules.specs.PanelCall.{total}

-- two tests of equality that hold together are one
pub same_test : (a b c d : ℕ) → (a ≡ b → c ≡ d) → (c ≡ d → a ≡ b) → eqb a b ≡ eqb c d
same_test a b c d f g = go (eqb c d) refl
  where
    go : (t : Bool) → eqb c d ≡ t → eqb a b ≡ t
    go true e = eq-eqb a b (g (eqb-true c d e))
    go false e = ne_eqb a b (λ q. eqb-false c d e (f q))

-- the counts from place k on: that one, and those behind it
pub total_from : (xs : List ℕ) (k : ℕ) → k < length xs → total (drop k xs) ≡ get_or xs k 0 + total (drop (k + 1) xs)
unfolding total
total_from xs k h = ap total (drop-cons xs k 0 h) ∙ ap (λ j. get_or xs k 0 + total (drop j xs)) (sym (add-one k))

-- behind the last one there is none
pub total_none : (xs : List ℕ) (k : ℕ) → length xs ≤ k → total (drop k xs) ≡ 0
unfolding total
total_none xs k h = ap total (drop_of_length-le xs h)

-- after k counts: whether all add up to the length is whether the others add up to what is left
pub record Left (counts : List ℕ) (whole left k : ℕ) : Type 0 where
  pub at_most : k ≤ length counts
  pub same : eqb (3 * total counts) whole ≡ eqb (3 * total (drop k counts)) left

-- before the first nothing is taken off
pub begin : (counts : List ℕ) (whole : ℕ) → Left counts whole whole 0
begin counts whole = record { at_most = omega arith; same = refl }

module _ {counts : List ℕ} {whole left k : ℕ} (v : Left counts whole left k) where
  -- a count that is more than what is left
  pub too_much : k < length counts → left < 3 * get_or counts k 0 → false ≡ eqb (3 * total counts) whole
  too_much h l = sym (v.same ∙ ne_eqb (3 * total (drop k counts)) left (λ e. omega (arith, total_from counts k h)))

  -- one count more is taken off
  pub again : k < length counts → 3 * get_or counts k 0 ≤ left → Left counts whole (left - 3 * get_or counts k 0) (k + 1)
  again h l =
      record {
        at_most = omega arith;
        same =
            v.same
            ∙ same_test (3 * total (drop k counts)) left (3 * total (drop (k + 1) counts)) (left - 3 * get_or counts k 0)
            (λ e. omega (arith, total_from counts k h)) (λ e. omega (arith, total_from counts k h));
      }

  -- after the last one nothing is left, or they do not add up
  pub done : length counts ≤ k → eqb left 0 ≡ eqb (3 * total counts) whole
  done h =
      sym
      (v.same
      ∙ same_test (3 * total (drop k counts)) left left 0 (λ e. omega (arith, total_none counts k h)) (λ e. omega (arith, total_none counts k h)))
