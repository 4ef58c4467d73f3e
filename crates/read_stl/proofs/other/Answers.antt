-- `read_stl::other` meets its contract: the same or not. Assumes nothing.
use Rattle.read_stl.proofs.Flagging.{is_own, is_other}
use Rattle.read_stl.proofs.other.Goals as goal

pub returns-then-j-c : goal.returns-then-j-c
returns-then-j-c c = is_own _ _ c.if-j-c.true

pub returns-else-j-c : goal.returns-else-j-c
returns-else-j-c c = is_other _ _ c.if-j-c.false
