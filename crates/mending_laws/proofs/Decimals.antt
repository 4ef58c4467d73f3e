-- A number in decimal: it is read back, has no tab and no newline, and few digits if it is small. Assumes nothing.
use mathlib.Core.Path.{◌≡◌, refl, sym, ◌∙◌}
use mathlib.Core.Option.{none, some}
use mathlib.Core.List.{List, [], ◌∷◌, map}
use Prim.Native.Nat.{ℕ, ◌≤◌, ◌<◌}
use native.Mathlib.Omega.{arith}
use borrow.Author.Tests.{le-leb}
use lib.ListN.{length}
use Rattle.rules.specs.Line.{digits, decimal}
use Rattle.rules.specs.Text.{of_decimal, whole}
use Rattle.rules.specs.Applying.{wholes}
use Rattle.rule_laws.proofs.Rising.{All, all_imp}
use Rattle.rule_laws.proofs.Digits.{Digit, digits_are, digits_of, digits_plain, digits_short, plain_decimal}
use Rattle.rule_laws.proofs.Texts.{equal_self}

-- a byte that is no tab and no newline
abbrev pub Plain : List ℕ → Type 0
Plain bs = All (λ b. 10 < b) bs

-- the digits of a number are such bytes
pub decimal_plain : (n : ℕ) → Plain (decimal n)
unfolding decimal
decimal_plain n = all_imp Digit (λ b. 10 < b) (λ b d. omega (arith, d)) (digits 10 n) (digits_are 10 n)

-- a number written is read back
pub whole_decimal : (n : ℕ) → n ≤ 4294967295 → whole (decimal n) ≡ some n
unfolding whole
whole_decimal n h =
    let e : of_decimal (decimal n) ≡ n = unfold decimal in (digits_of 10 n (omega arith)) in
    rw (e, le-leb n 4294967295 h, equal_self (decimal n)) refl

-- so are several
pub wholes_decimal : (ns : List ℕ) → All (λ n. n ≤ 4294967295) ns → wholes (map decimal ns) ≡ some ns
unfolding wholes
wholes_decimal [] h = refl
wholes_decimal (n ∷ ns) h =
    λ i. elim (whole_decimal n h.0 i) [ none ↦ none | some k ↦ elim (wholes_decimal ns h.1 i) [ none ↦ none | some ks ↦ some (k ∷ ks) ] ]

-- a number below ten million has at most seven digits: seven digits of it are all of it
pub decimal_seven : (n : ℕ) → n < 10000000 → length (decimal n) ≤ 7
decimal_seven n h =
    let e : decimal n ≡ digits 7 n = plain_decimal n (omega arith) ∙ sym (digits_plain 7 n (omega arith) (omega arith) (omega arith)) in
    rw e (digits_short 7 n)
