-- `refuse::known` meets its contract: all labels before i are without fault. Assumes nothing.
use Prim.Native.Nat.{◌-◌}
use lib.ListN.{length}
use Rattle.refuse.proofs.Scans.{Clean, strange_at}
use Rattle.refuse.proofs.known.Given as goal

abbrev pub invariant-loop-i : goal.invariant-loop-i
invariant-loop-i l = Clean (strange_at l.count l.labels) (length l.labels) l.i
