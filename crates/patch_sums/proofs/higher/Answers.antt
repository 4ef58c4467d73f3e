-- `patch_sums::higher` meets its contract: the test decides. Assumes nothing.
use Rattle.patch_sums.proofs.Boxes.{higher_new, higher_old}
use Rattle.patch_sums.proofs.higher.Goals as goal

pub returns-then-held-x : goal.returns-then-held-x
returns-then-held-x c = higher_new _ _ c.if-held-x.true

pub returns-else-held-x : goal.returns-else-held-x
returns-else-held-x c = higher_old _ _ c.if-held-x.false
