-- `face_index::next_indexed` meets its contract. The invariant: no face that was passed has both corners. Assumes nothing.
use Prim.Native.Nat.{◌/◌, ◌-◌}
use lib.ListN.{length}
use Rattle.face_index.proofs.Finding.{Passed}
use Rattle.face_index.proofs.next_indexed.Given as goal

abbrev pub invariant-loop-f : goal.invariant-loop-f
invariant-loop-f l = Passed l.faces l.index l.a l.b l.from l.size l.row l.other l.f

abbrev pub decreases-loop-f : goal.decreases-loop-f
decreases-loop-f l = length l.faces / 3 - l.f
