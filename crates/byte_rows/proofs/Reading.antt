-- A number and a float from bytes. Assumes nothing.
use mathlib.Core.Path.{◌≡◌, refl, sym, ap, ap₂, ◌∙◌}
use mathlib.Core.Bool.{true, not, true≢false}
use mathlib.Core.List.{List}
use Prim.Native.Nat.{ℕ, ◌+◌, ◌*◌, ◌%◌, ◌≤◌, ◌<◌}
use borrow.Author.Tests.{lt-ltb, le-ltb}
use lib.Dec.{T}
use lib.Ieee.{Float, nan, inf, fin, binary64, is_nan, nan_bits, of_bits, div}
use lib.Ieee.Bits.{nan_bits_is, nan_bits_above}
use Rattle.rules.specs.Bytes.{u32_at}
use Rattle.rules.specs.Ply.{real_at}

-- zero by zero is no number
pub zero_by_zero : div binary64 (of_bits binary64 0) (of_bits binary64 0) ≡ nan
unfolding div of_bits
zero_by_zero = refl

-- there is one that is no number
pub only_nan : (x : Float) → is_nan x ≡ true → x ≡ nan
unfolding is_nan
only_nan nan e = refl
only_nan (inf s) e = absurd (true≢false (sym e))
only_nan (fin s m k) e = absurd (true≢false (sym e))

-- a pattern above infinity's, the sign left out, is no number's
pub no_number : (n : ℕ) → 0x7ff0_0000_0000_0000 < n % 0x8000_0000_0000_0000 → div binary64 (of_bits binary64 0) (of_bits binary64 0) ≡ of_bits binary64 n
no_number n h = zero_by_zero ∙ sym (only_nan _ (sym (nan_bits_is binary64 n) ∙ nan_bits_above binary64 n ∙ lt-ltb _ _ h))

-- any other is a number's
pub number : (n : ℕ) → n % 0x8000_0000_0000_0000 ≤ 0x7ff0_0000_0000_0000 → T (not (nan_bits binary64 n))
number n h = rw (nan_bits_above binary64 n ∙ le-ltb _ _ h) tt

-- eight bytes are the bits of an f64
pub eight_bytes : (file : List ℕ) (i low high : ℕ) (x : Float) → low ≡ u32_at file i → high ≡ u32_at file (i + 4) → x ≡ of_bits binary64 (low + 4294967296 * high) → x ≡ real_at file i
unfolding real_at
eight_bytes file i low high x p q e = e ∙ ap (of_bits binary64) (ap₂ (λ (a b : ℕ). a + 4294967296 * b) p q)
