-- `flood_try::one` meets its contract: antt computes what the row holds. Assumes nothing.
use mathlib.Core.Path.{refl}
use Rattle.flood_try.proofs.Ready.{ready}
use Rattle.flood_try.proofs.one.Goals as goal

pub returns : goal.returns
returns c = ready _ _ refl
