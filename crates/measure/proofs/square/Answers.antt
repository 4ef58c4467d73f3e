-- `measure::square` meets its contract. Assumes nothing.
use mathlib.Core.Path.{refl}
use Rattle.rules.specs.Float.{norm²}
use Rattle.measure.proofs.square.Goals as goal

pub returns : goal.returns
unfolding norm²
returns c = refl
