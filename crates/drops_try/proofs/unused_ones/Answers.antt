-- `drops_try::unused_ones` meets what its calls ask: antt computes the lengths and the corners. Assumes nothing.
use mathlib.Core.Path.{refl}
use Rattle.drops_try.proofs.Ready.{unused}
use Rattle.drops_try.proofs.unused_ones.Goals as goal

pub isolated-requires : goal.isolated-requires
isolated-requires g c = unused _ _ _ _ _ refl refl refl refl refl
