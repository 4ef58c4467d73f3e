-- `boundary::uneven` meets its contract: no vertex before i is at fault. Assumes nothing.
use Prim.Native.Nat.{◌+◌}
use Rattle.refuse.proofs.Scans.{Clean}
use Rattle.boundary.specs.Rows.{uneven}
use Rattle.boundary.proofs.uneven.Given as goal

abbrev pub invariant-loop-i : goal.invariant-loop-i
invariant-loop-i l = Clean (uneven l.work l.row (l.row + l.count)) l.count l.i
