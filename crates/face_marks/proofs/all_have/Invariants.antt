-- `face_marks::all_have` meets its contract: the faces before `at` have the point. Assumes nothing.
use Prim.Native.Nat.{◌-◌}
use Rattle.face_marks.proofs.Faces.{Looked}
use Rattle.face_marks.proofs.all_have.Given as goal

abbrev pub invariant-loop-at : goal.invariant-loop-at
invariant-loop-at l = Looked l.text l.from l.end l.faces l.marks l.n l.v l.at

abbrev pub decreases-loop-at : goal.decreases-loop-at
decreases-loop-at l = l.end - l.at
