-- `point_bits::is_set` meets its contract: as it is written. Assumes nothing.
use mathlib.Core.Path.{refl}
use Rattle.point_bits.specs.Bits.{bit}
use Rattle.point_bits.proofs.is_set.Goals as goal

pub returns : goal.returns
unfolding bit
returns c = refl
