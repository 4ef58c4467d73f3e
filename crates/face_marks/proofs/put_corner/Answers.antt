-- `face_marks::put_corner` meets its contract: a bit more, if the corner was free. Assumes nothing.
use Rattle.face_marks.proofs.Putting.{corner_put, corner_left}
use Rattle.face_marks.proofs.put_corner.Goals as goal

pub returns-then-m-unit-eq0 : goal.returns-then-m-unit-eq0
returns-then-m-unit-eq0 c = corner_put c.if-m-unit-eq0.true c.set_bit.ensures

pub returns-else-m-unit-eq0 : goal.returns-else-m-unit-eq0
returns-else-m-unit-eq0 c = corner_left c.if-m-unit-eq0.false
