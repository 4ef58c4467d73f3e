-- `patch_sums::lower` meets its contract: the test decides. Assumes nothing.
use Rattle.patch_sums.proofs.Boxes.{lower_new, lower_old}
use Rattle.patch_sums.proofs.lower.Goals as goal

pub returns-then-x-held : goal.returns-then-x-held
returns-then-x-held c = lower_new _ _ c.if-x-held.true

pub returns-else-x-held : goal.returns-else-x-held
returns-else-x-held c = lower_old _ _ c.if-x-held.false
