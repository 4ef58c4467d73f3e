-- The exponent's field of an f64, as a definition. Definitions only.
use Rattle.std.specs.Prelude.{ℕ, ◌/◌, ◌^◌, Float}
use Rattle.std.specs.Float.{nan, inf, fin, binary64}
use Rattle.std.specs.Float.Ieee.{to_bits}

-- what stands above the 52 digits of a pattern, the sign counted in; of what is no number 2047
unfoldable pub exponent_of : Float → ℕ
exponent_of nan = 2047
exponent_of (inf s) = to_bits binary64 (inf s) / 2 ^ 52
exponent_of (fin s m e) = to_bits binary64 (fin s m e) / 2 ^ 52
