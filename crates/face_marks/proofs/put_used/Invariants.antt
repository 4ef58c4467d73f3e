-- `face_marks::put_used` meets its contract: the points of the faces before f. Assumes nothing.
use Prim.Native.Nat.{◌-◌}
use Rattle.face_marks.proofs.Putting.{Put}
use Rattle.face_marks.proofs.put_used.Given as goal

abbrev pub invariant-loop-f : goal.invariant-loop-f
invariant-loop-f l = Put l.faces l.marks l.n l.initial.bits l.bits l.f
