-- `list_check::take_point` meets its contract: the faces' bytes, and the point's bit. Assumes nothing.
use Rattle.list_check.proofs.Points.{point_set, point_none}
use Rattle.list_check.proofs.take_point.Goals as goal

pub returns-then-from-end : goal.returns-then-from-end
returns-then-from-end c = point_set c.requires c.take_all.ensures c.if-from-end.true c.set_bit.ensures

pub returns-else-from-end : goal.returns-else-from-end
returns-else-from-end c = point_none c.requires c.take_all.ensures c.if-from-end.false
