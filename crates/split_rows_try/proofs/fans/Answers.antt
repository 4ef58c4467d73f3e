-- `split_rows_try::fans` runs both passes on what they ask for: antt computes it. Assumes nothing.
use mathlib.Core.Path.{refl}
use Rattle.split_rows_try.proofs.Ready.{ready}
use Rattle.split_rows_try.proofs.fans.Goals as goal

pub run-requires : goal.run-requires
run-requires g c = ready _ _ _ _ _ refl
