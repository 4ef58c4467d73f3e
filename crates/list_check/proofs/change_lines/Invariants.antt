-- `list_check::change_lines` meets its contract: the lines before `at` apply. Assumes nothing.
use Prim.Native.Nat.{◌-◌}
use lib.ListN.{length}
use Rattle.list_check.proofs.Looping.{Going}
use Rattle.list_check.proofs.change_lines.Given as goal

abbrev pub invariant-loop-at : goal.invariant-loop-at
invariant-loop-at l = Going l.points l.faces l.text l.initial.marks l.initial.bits l.marks l.bits l.at l.line l.last.section l.last.first l.last.second l.splits

abbrev pub decreases-loop-at : goal.decreases-loop-at
decreases-loop-at l = length l.text - l.at
