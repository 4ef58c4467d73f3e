-- `wiping::F64Marked::bits` meets its contract: a number's bits give it back, and what is none differs from itself. Assumes nothing.
use mathlib.Core.Path.{sym, subst}
use lib.Dec.{T}
use Rattle.root.proofs.Units.{no_nan_same}
use Rattle.wiping.proofs.Patterns.{no_number, number}
use Rattle.wiping.proofs.F64Marked.bits.Goals as goal

pub returns-then-self : goal.returns-then-self
returns-then-self c = no_number _ c.if-self.true

pub float_to_bits-result : goal.float_to_bits-result
float_to_bits-result c = no_nan_same _ c.if-self.false

pub returns : goal.returns
returns c = number _ (subst T (sym c.well_formed.0.1) tt)
