-- `options::Pass::is_on` meets its contract: the number of the bit is the power that the rule divides by. Assumes nothing.
use Rattle.rules.specs.Repair.{bit}
use mathlib.Core.Path.{refl}
use Rattle.options.proofs.Pass.is_on.Goals as goal

pub returns : goal.returns
unfolding bit
returns c = rw (← c.mask.ensures) refl
