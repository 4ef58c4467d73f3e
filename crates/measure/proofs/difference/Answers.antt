-- `measure::difference` meets its contract. Assumes nothing.
use mathlib.Core.Path.{refl}
use Rattle.rules.specs.Float.{difference}
use Rattle.measure.proofs.difference.Goals as goal

pub returns : goal.returns
unfolding difference
returns c = refl
