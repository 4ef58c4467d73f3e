-- A float from its bits, a NaN's too. Assumes nothing.
use mathlib.Core.Path.{◌≡◌, sym, subst, ◌∙◌}
use mathlib.Core.Bool.{Bool, true, false, not, ◌&&◌}
use Prim.Native.Nat.{ℕ, ◌%◌, ◌≤◌, ◌<◌}
use borrow.Author.Tests.{lt-ltb, le-ltb}
use lib.Dec.{T, ltb}
use lib.Ieee.{binary32, binary64, is_nan, nan_bits, of_bits, div, fits}
use lib.Ieee.Fits.{and_i}
use lib.Ieee.Bits.{nan_bits_is, nan_bits_above}
use Rattle.rule_laws.proofs.Equal.{widened_fits}
use Rattle.byte_rows.proofs.Reading.{zero_by_zero, only_nan}

-- a NaN's pattern is above the infinity's
nan_by_bits : (b : ℕ) (t : Bool) → ltb 2139095040 (b % 2147483648) ≡ t → is_nan (of_bits binary32 b) ≡ t
nan_by_bits b t e = sym (nan_bits_is binary32 b) ∙ nan_bits_above binary32 b ∙ e

-- a NaN's pattern
pub is_nan_is_nan : (b : ℕ) → 2139095040 < b % 2147483648 → div binary64 (of_bits binary64 0) (of_bits binary64 0) ≡ of_bits binary32 b
is_nan_is_nan b h = zero_by_zero ∙ sym (only_nan (of_bits binary32 b) (nan_by_bits b true (lt-ltb 2139095040 (b % 2147483648) h)))

-- any other
pub no_nan : (b : ℕ) → b % 2147483648 ≤ 2139095040 → T (not (is_nan (of_bits binary32 b)))
no_nan b h = subst (λ t. T (not t)) (sym (nan_by_bits b false (le-ltb 2139095040 (b % 2147483648) h))) tt

pub no_nan_bits : (b : ℕ) → b % 2147483648 ≤ 2139095040 → T (not (nan_bits binary32 b))
no_nan_bits b h = subst (λ t. T (not t)) (sym (nan_bits_is binary32 b)) (no_nan b h)

-- is an f64 too
pub widens : (b : ℕ) → b % 2147483648 ≤ 2139095040 → T (fits binary64 (of_bits binary32 b) && not (is_nan (of_bits binary32 b)))
widens b h = and_i (fits binary64 (of_bits binary32 b)) (not (is_nan (of_bits binary32 b))) (widened_fits b) (no_nan b h)
