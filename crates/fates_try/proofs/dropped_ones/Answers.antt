-- `fates_try::dropped_ones` meets what its call asks: antt computes the lengths and the corners. Assumes nothing.
use mathlib.Core.Path.{refl}
use Rattle.fates_try.proofs.Ready.{ready}
use Rattle.fates_try.proofs.dropped_ones.Goals as goal

pub told-requires : goal.told-requires
told-requires g c = ready _ _ _ _ _ _ refl refl refl refl refl refl refl refl
