-- `refuse::corners` meets its contract: all faces before i are without fault. Assumes nothing.
use Prim.Native.Nat.{◌-◌, ◌/◌}
use lib.ListN.{length}
use Rattle.refuse.proofs.Scans.{Clean, astray_at}
use Rattle.refuse.proofs.corners.Given as goal

abbrev pub invariant-loop-i : goal.invariant-loop-i
invariant-loop-i l = Clean (astray_at l.p l.faces) (length l.faces / 3) l.i
