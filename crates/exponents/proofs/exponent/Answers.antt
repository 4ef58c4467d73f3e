-- `exponents::exponent` meets its contract. Assumes nothing.
use Rattle.root.proofs.Units.{no_nan_same}
use Rattle.exponents.proofs.Bounded.{exponent_nan, exponent_bits}
use Rattle.exponents.proofs.exponent.Goals as goal

pub returns-then-x : goal.returns-then-x
returns-then-x c = exponent_nan _ c.if-x.true

pub float_to_bits-result : goal.float_to_bits-result
float_to_bits-result c = no_nan_same c.args.x c.if-x.false

pub returns : goal.returns
returns c = exponent_bits _ c.if-x.false
