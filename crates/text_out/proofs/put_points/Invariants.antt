-- `text_out::put_points` meets its contract: the lines of the first i points are put. Assumes nothing.
use Rattle.rules.specs.Mesh.{points_of}
use Rattle.text_out.specs.Printed.{point_line}
use Rattle.text_out.proofs.Lines.{SoFar}
use Rattle.text_out.proofs.put_points.Given as goal

abbrev pub invariant-loop-i : goal.invariant-loop-i
invariant-loop-i l = SoFar point_line (points_of l.points) 53 l.initial.out l.at l.out l.next l.i
