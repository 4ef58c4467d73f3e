-- `edge_check::distinct` meets its contract: no face before i repeats a corner. Assumes nothing.
use Prim.Native.Nat.{◌/◌}
use lib.ListN.{length}
use Rattle.refuse.proofs.Scans.{Clean}
use Rattle.edge_check.proofs.Corners.{repeats_at}
use Rattle.edge_check.proofs.distinct.Given as goal

abbrev pub invariant-loop-i : goal.invariant-loop-i
invariant-loop-i l = Clean (repeats_at l.faces) (length l.faces / 3) l.i
