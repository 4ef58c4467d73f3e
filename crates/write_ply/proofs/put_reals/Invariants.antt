-- `write_ply::put_reals` meets its contract: the bits of the first i coordinates are put. Assumes nothing.
use Rattle.write_ply.specs.Written.{real}
use Rattle.write_ply.proofs.Putting.{SoFar}
use Rattle.write_ply.proofs.put_reals.Given as goal

abbrev pub invariant-loop-i : goal.invariant-loop-i
invariant-loop-i l = SoFar real 8 l.points l.initial.out l.at l.out l.next l.i
