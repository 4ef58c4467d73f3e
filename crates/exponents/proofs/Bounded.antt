-- An f64 that is finite and not negative lies between two powers of two, which its exponent gives. Assumes nothing.
use mathlib.Core.Path.{◌≡◌, refl, sym, ap, ◌∙◌, subst}
use mathlib.Core.Bool.{true, false, true≢false}
use Prim.Native.Nat.{ℕ, zero, suc, ◌+◌, ◌*◌, ◌/◌, ◌%◌, ◌^◌, ◌≤◌, ◌<◌}
use native.Mathlib.Nat.{le_trans, le_of_eq, lt_irrefl, mul-le-mul_right}
use native.Mathlib.Omega.{arith}
use lib.Dec.{T}
use lib.Pow.{pow-add}
use lib.Ieee.{Float, nan, inf, fin, binary64, ne, fits, to_bits}
use lib.Ieee.Bits.{of_bits-to_bits}
use lib.Ieee.Compare.{nan_differs, differs_from_itself}
use lib.Ieee.Exact.{HasValue}
use lib.Ieee.Positive.{den, value→cross}
use Rattle.root.proofs.Units.{count, fields_value, of_low}
use Rattle.rule_laws.proofs.Bounds.{Upto, AtLeast, value_plain}
use Rattle.exponents.specs.Exponent.{exponent_of}

-- ---- the exponent, as the code has it

-- what differs from itself is no number
pub exponent_nan : (x : Float) → ne x x ≡ true → 2047 ≡ exponent_of x
unfolding exponent_of
exponent_nan x t = ap exponent_of (sym (differs_from_itself x (subst T (sym t) tt)))

-- of a number it stands above the digits of the pattern
pub exponent_bits : (x : Float) → ne x x ≡ false → to_bits binary64 x / 2 ^ 52 ≡ exponent_of x
unfolding exponent_of
exponent_bits nan t = absurd (true≢false (sym nan_differs ∙ t))
exponent_bits (inf s) t = refl
exponent_bits (fin s m e) t = refl

-- ---- what an exponent says of its number

-- with the exponent E and the digits t a number is at most 2 ^ (E + 52) units
count_upto : (E t : ℕ) → t < 2 ^ 52 → count E t ≤ 2 ^ (E + 52)
count_upto zero t h = omega arith
count_upto (suc x) t h = le_trans (mul-le-mul_right (2 ^ x) (most t h)) (le_of_eq (sym (pow-add 2 53 x) ∙ ap (λ (z : ℕ). 2 ^ z) (place x)))
  where
    most : (t : ℕ) → t < 2 ^ 52 → 2 ^ 52 + t ≤ 2 ^ 53
    most t h = omega arith

    place : (x : ℕ) → 53 + x ≡ suc x + 52
    place x = omega arith

-- and, if E is not 0, at least 2 ^ (E + 51)
count_from : (E t : ℕ) → 0 < E → 2 ^ (E + 51) ≤ count E t
count_from zero t p = absurd (lt_irrefl 0 p)
count_from (suc x) t p = le_trans (le_of_eq (ap (λ (z : ℕ). 2 ^ z) (place x) ∙ pow-add 2 52 x)) (mul-le-mul_right (2 ^ x) (least t))
  where
    least : (t : ℕ) → 2 ^ 52 ≤ 2 ^ 52 + t
    least t = omega arith

    place : (x : ℕ) → suc x + 51 ≡ 52 + x
    place x = omega arith

-- a float is the value that its pattern counts
bits_value : (x : Float) → T (fits binary64 x) → to_bits binary64 x / 2 ^ 52 < 2047 → HasValue x false (count (to_bits binary64 x / 2 ^ 52) (to_bits binary64 x % 2 ^ 52)) (2 ^ 1074)
bits_value x f h =
    subst (λ (y : Float). HasValue y false (count (b / 2 ^ 52) (b % 2 ^ 52)) (2 ^ 1074)) (sym (of_low b (low b h)) ∙ of_bits-to_bits binary64 x f)
    (fields_value false (b / 2 ^ 52) (b % 2 ^ 52) h)
  where
    b : ℕ
    b = to_bits binary64 x

    low : (b : ℕ) → b / 2 ^ 52 < 2047 → b < 2 ^ 63
    low b h = omega arith

-- x has the exponent E, not the sign, and some digits
record Counted (x : Float) (E : ℕ) : Type 0 where
  digits : ℕ
  few : digits < 2 ^ 52
  value : HasValue x false (count E digits) (2 ^ 1074)

-- any float does
counted : (x : Float) → T (fits binary64 x) → exponent_of x < 2047 → Counted x (exponent_of x)
unfolding exponent_of
counted nan f h = absurd (lt_irrefl 2047 h)
counted (inf s) f h = record { digits = to_bits binary64 (inf s) % 2 ^ 52; few = omega arith; value = bits_value (inf s) f h }
counted (fin s m e) f h = record { digits = to_bits binary64 (fin s m e) % 2 ^ 52; few = omega arith; value = bits_value (fin s m e) f h }

module _ (x : Float) (f : T (fits binary64 x)) (h : exponent_of x < 2047) where
  -- the bound from above
  pub exponent_upto : Upto binary64 (exponent_of x + 52) x
  exponent_upto =
      let c = counted x f h in
      record {
        is_plain = value_plain binary64 x (count (exponent_of x) c.digits) (2 ^ 1074) c.value;
        small = le_trans (le_of_eq (value→cross x (count (exponent_of x) c.digits) (2 ^ 1074) c.value)) (mul-le-mul_right (den x) (count_upto (exponent_of x) c.digits c.few));
      }

  -- the bound from below
  pub exponent_from : 0 < exponent_of x → AtLeast binary64 (exponent_of x + 51) x
  exponent_from p =
      let c = counted x f h in
      record {
        large = le_trans (mul-le-mul_right (den x) (count_from (exponent_of x) c.digits p)) (le_of_eq (sym (value→cross x (count (exponent_of x) c.digits) (2 ^ 1074) c.value)));
      }
