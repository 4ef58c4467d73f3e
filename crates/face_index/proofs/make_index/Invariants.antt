-- `face_index::make_index` meets its contract. The invariant: the bits of the corners that were passed are set. Assumes nothing.
use Rattle.face_index.proofs.Finding.{Noted}
use Rattle.face_index.proofs.make_index.Given as goal

abbrev pub invariant-loop-i : goal.invariant-loop-i
invariant-loop-i l = Noted l.faces l.initial.index l.size l.index l.i
