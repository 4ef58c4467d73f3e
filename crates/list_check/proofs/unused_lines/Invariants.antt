-- `list_check::unused_lines` meets its contract: the `u` lines before `at` apply. Assumes nothing.
use Prim.Native.Nat.{◌-◌}
use lib.ListN.{length}
use Rattle.list_check.proofs.Unused.{Unusing}
use Rattle.list_check.proofs.unused_lines.Given as goal

abbrev pub invariant-loop-at : goal.invariant-loop-at
invariant-loop-at l = Unusing l.text l.from l.number l.bound l.bits l.at l.line l.least

abbrev pub decreases-loop-at : goal.decreases-loop-at
decreases-loop-at l = length l.text - l.at
