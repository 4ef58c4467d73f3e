-- `face_marks::take_all` meets its contract: the point has left the faces before `at`. Assumes nothing.
use Prim.Native.Nat.{◌-◌}
use native.Mathlib.Omega.{arith}
use Rattle.face_marks.proofs.Faces.{leaving_begin, leaving_asks, leaving_again, leaving_done}
use Rattle.face_marks.proofs.take_all.Goals as goal

pub loop-at-init : goal.loop-at-init
loop-at-init c = leaving_begin c.args.v c.requires

pub read_face-face-requires : goal.read_face-face-requires
read_face-face-requires c = record { faces = c.loop-at.invariant.faces; left = c.loop-at-test.true }

pub take_face-requires : goal.take_face-requires
take_face-requires c = leaving_asks c.loop-at.invariant c.read_face-face.ensures

pub loop-at-smaller : goal.loop-at-smaller
loop-at-smaller c = omega (arith, c.read_face-face.ensures, c.read_face-face.ensures.faces)

pub loop-at-preserved : goal.loop-at-preserved
loop-at-preserved c = leaving_again c.loop-at.invariant c.read_face-face.ensures c.take_face.ensures

pub shape_of-marks : goal.shape_of-marks
shape_of-marks c = c.loop-at.invariant.long

pub returns : goal.returns
returns c = leaving_done c.loop-at.invariant c.loop-at-test.false
