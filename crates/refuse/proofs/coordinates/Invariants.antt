-- `refuse::coordinates` meets its contract: all points before i are without fault. Assumes nothing.
use Prim.Native.Nat.{◌-◌, ◌/◌}
use lib.ListN.{length}
use Rattle.refuse.proofs.Scans.{Clean, far_at}
use Rattle.refuse.proofs.coordinates.Given as goal

abbrev pub invariant-loop-i : goal.invariant-loop-i
invariant-loop-i l = Clean (far_at l.points) (length l.points / 3) l.i
