-- `face_marks::put_used` meets its contract: the points of the faces before f. Assumes nothing.
use Prim.Native.Nat.{◌-◌}
use Rattle.face_marks.proofs.Putting.{put_begin, put_asks, put_byte, put_again, put_past, put_done}
use Rattle.face_marks.proofs.put_used.Goals as goal
use Rattle.face_marks.proofs.put_used.Goals.{else-marks-f-eq0, then-marks-f-eq0}

pub loop-f-init : goal.loop-f-init
loop-f-init c = put_begin

pub bounds-marks-f : goal.bounds-marks-f
bounds-marks-f c = put_byte c.requires c.loop-f.invariant c.loop-f-test.true

pub put_face-requires : goal.put_face-requires
put_face-requires c = put_asks c.requires c.loop-f.invariant c.loop-f-test.true

pub loop-f-preserved : goal.loop-f-preserved
loop-f-preserved c = elim c.if-marks-f-eq0.branch [ then-marks-f-eq0 w ↦ rw w.bits-is (put_again c.requires c.loop-f.invariant c.loop-f-test.true w.if-marks-f-eq0.true w.put_face.ensures) | else-marks-f-eq0 w ↦ rw w.bits-is (put_past c.requires c.loop-f.invariant c.loop-f-test.true w.if-marks-f-eq0.false) ]

pub shape_of-bits : goal.shape_of-bits
shape_of-bits c = c.loop-f.invariant.long

pub returns : goal.returns
returns c = put_done c.loop-f.invariant c.loop-f-test.false
