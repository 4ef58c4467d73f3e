-- What the bits of a float say of it. Assumes nothing.
use mathlib.Core.Path.{◌≡◌, refl, sym, ap, ◌∙◌}
use mathlib.Core.Bool.{true, false, true≢false}
use native.Mathlib.Omega.{arith}
use lib.Dec.{T}
use lib.Ieee.{Float, binary64, fits, of_bits, to_bits, ne}
use lib.Ieee.Bits.{of_bits-to_bits}
use Rattle.rows.specs.Region.{zero64}
use Rattle.wiping.specs.Blocks.{Tells}

-- no bit is set in +0, and it equals itself
zero_bits : to_bits binary64 zero64 ≡ 0
unfolding to_bits
zero_bits = refl

zero_same : ne zero64 zero64 ≡ false
unfolding ne
zero_same = refl

-- and +0 alone has none
no_bits : (x : Float) → T (fits binary64 x) → to_bits binary64 x ≡ 0 → x ≡ zero64
unfolding of_bits
no_bits x f e = sym (of_bits-to_bits binary64 x f) ∙ ap (of_bits binary64) e

-- the bits of a number
pub number : (x : Float) → T (fits binary64 x) → Tells zero64 x (to_bits binary64 x)
number x f = record { clean = no_bits x f; none = λ e. ap (to_bits binary64) e ∙ zero_bits }

-- what differs from itself is not +0
pub no_number : (x : Float) → ne x x ≡ true → Tells zero64 x 1
no_number x h = record { clean = λ e. absurd (omega arith); none = λ e. absurd (true≢false (sym h ∙ ap (λ y. ne y y) e ∙ zero_same)) }
