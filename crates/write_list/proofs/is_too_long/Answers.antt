-- `write_list::is_too_long` meets its contract: the room is ample, the parts are all one number, or the length is searched for. Assumes nothing.
use Rattle.write_list.proofs.Ending.{limits, ample_fits, told_fits, told_uniform, told_searched}
use Rattle.write_list.proofs.is_too_long.Goals as goal

pub is_ample-requires : goal.is_ample-requires
is_ample-requires c = limits c.requires.long_asks

pub returns-then-is_ample : goal.returns-then-is_ample
returns-then-is_ample c = let q = c.requires.long_asks in told_fits q (ample_fits q c.is_ample.ensures c.if-is_ample.true)

pub returns-then-is_uniform : goal.returns-then-is_uniform
returns-then-is_uniform c = told_uniform c.requires.long_asks c.is_uniform.ensures c.if-is_uniform.true

pub returns : goal.returns
returns c = told_searched c.requires.long_asks c.is_longer.ensures
