-- `text_out::put_faces` meets its contract: the lines of the first i faces are put. Assumes nothing.
use Rattle.rules.specs.Mesh.{faces_of}
use Rattle.text_out.specs.Printed.{face_line}
use Rattle.text_out.proofs.Lines.{SoFar}
use Rattle.text_out.proofs.put_faces.Given as goal

abbrev pub invariant-loop-i : goal.invariant-loop-i
invariant-loop-i l = SoFar face_line (faces_of l.faces) 35 l.initial.out l.at l.out l.next l.i
