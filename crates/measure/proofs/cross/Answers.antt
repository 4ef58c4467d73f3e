-- `measure::cross` meets its contract. Assumes nothing.
use mathlib.Core.Path.{refl}
use Rattle.rules.specs.Float.{cross}
use Rattle.measure.proofs.cross.Goals as goal

pub returns : goal.returns
unfolding cross
returns c = refl
