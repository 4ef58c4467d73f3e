-- `show::runs` is safe and ends: a run begins within what is passed. Assumes nothing.
use Prim.Native.Nat.{◌≤◌, ◌-◌}
use lib.ListN.{length}
use Rattle.show.proofs.runs.Given as goal

abbrev pub invariant-loop-i : goal.invariant-loop-i
invariant-loop-i g l = (l.begin ≤ l.i) × (l.i ≤ length l.row)
