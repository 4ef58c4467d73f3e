-- `face_marks::take_all` meets its contract: the point has left the faces before `at`. Assumes nothing.
use Prim.Native.Nat.{◌-◌}
use Rattle.face_marks.proofs.Faces.{Leaving}
use Rattle.face_marks.proofs.take_all.Given as goal

abbrev pub invariant-loop-at : goal.invariant-loop-at
invariant-loop-at l = Leaving l.text l.from l.end l.faces l.initial.marks l.v l.marks l.at

abbrev pub decreases-loop-at : goal.decreases-loop-at
decreases-loop-at l = l.end - l.at
