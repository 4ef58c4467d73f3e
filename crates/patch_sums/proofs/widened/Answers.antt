-- `patch_sums::widened` meets its contract: each box number by itself. Assumes nothing.
use Rattle.patch_sums.proofs.Faces.{widened_is}
use Rattle.patch_sums.proofs.widened.Goals as goal

pub returns : goal.returns
returns c = widened_is _ _ c.lower.ensures c.lower-2.ensures c.lower-3.ensures c.higher.ensures c.higher-2.ensures c.higher-3.ensures
