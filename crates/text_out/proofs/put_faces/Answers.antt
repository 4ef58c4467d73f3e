-- `text_out::put_faces` meets its contract: the lines of the first i faces are put. Assumes nothing.
use native.Mathlib.Omega.{arith}
use Rattle.rule_laws.proofs.Flat.{length_faces}
use Rattle.text_out.specs.Printed.{face_line}
use Rattle.text_out.proofs.Lines.{begin, face_again, done, face_asks}
use Rattle.text_out.proofs.put_faces.Goals as goal

pub loop-i-init : goal.loop-i-init
loop-i-init c = begin face_line _ 35 (omega (arith, c.requires))

pub put_face-next-requires : goal.put_face-next-requires
put_face-next-requires c = face_asks _ c.requires c.loop-i.invariant c.loop-i-test.true

pub loop-i-preserved : goal.loop-i-preserved
loop-i-preserved c = face_again _ c.loop-i.invariant c.loop-i-test.true c.put_face-next.ensures

pub shape_of-out : goal.shape_of-out
shape_of-out c = c.loop-i.invariant.puts.only.long

pub returns : goal.returns
returns c = done face_line _ 35 c.loop-i.invariant (length_faces _) c.loop-i-test.false
