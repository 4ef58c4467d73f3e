-- `measure_try::same` meets its contract: its precondition says it. Assumes nothing.
use mathlib.Core.Path.{◌≡◌, sym, subst}
use mathlib.Core.Bool.{Bool, false, not}
use lib.Dec.{T}
use borrow.Author.Tests.{eq-eqb}
use Rattle.measure_try.proofs.same.Goals as goal

-- a test that came out false
test : (b : Bool) → b ≡ false → T (not b)
test b e = subst (λ (x : Bool). T (not x)) (sym e) tt

pub float_to_bits-x : goal.float_to_bits-x
float_to_bits-x c = test _ c.requires.0

pub expect-requires : goal.expect-requires
expect-requires c = eq-eqb _ _ c.requires.1
