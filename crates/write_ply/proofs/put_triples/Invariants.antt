-- `write_ply::put_triples` meets its contract: the first i faces are put. Assumes nothing.
use Rattle.rules.specs.Mesh.{faces_of}
use Rattle.rules.specs.Ply.{triple}
use Rattle.write_ply.proofs.Putting.{SoFar}
use Rattle.write_ply.proofs.put_triples.Given as goal

abbrev pub invariant-loop-i : goal.invariant-loop-i
invariant-loop-i l = SoFar triple 13 (faces_of l.faces) l.initial.out l.at l.out l.next l.i
