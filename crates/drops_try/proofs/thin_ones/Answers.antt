-- `drops_try::thin_ones` meets what its calls ask: antt computes the lengths and the corners. Assumes nothing.
use mathlib.Core.Path.{refl}
use native.Mathlib.Omega.{arith}
use Rattle.drops_try.proofs.Ready.{stands}
use Rattle.drops_try.proofs.thin_ones.Goals as goal

pub degenerate-requires : goal.degenerate-requires
degenerate-requires g c = record { pass_asks = record { whole = refl; stand = stands _ _ _ _ _ refl refl refl refl refl }; n_in_bounds = omega arith }

pub degenerate-requires-2 : goal.degenerate-requires-2
degenerate-requires-2 g c = record { pass_asks = record { whole = refl; stand = stands _ _ _ _ _ refl refl refl refl refl }; n_in_bounds = omega arith }
