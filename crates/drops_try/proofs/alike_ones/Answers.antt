-- `drops_try::alike_ones` meets what its calls ask: antt computes the lengths and the corners. Assumes nothing.
use mathlib.Core.Path.{refl}
use native.Mathlib.Omega.{arith}
use Rattle.drops_try.proofs.Ready.{stands}
use Rattle.drops_try.proofs.alike_ones.Goals as goal

pub duplicate-requires : goal.duplicate-requires
duplicate-requires g c = record { faces_stand = stands _ _ _ _ _ refl refl refl refl refl; n_in_bounds = omega arith }

pub duplicate-requires-2 : goal.duplicate-requires-2
duplicate-requires-2 g c = record { faces_stand = stands _ _ _ _ _ refl refl refl refl refl; n_in_bounds = omega arith }
