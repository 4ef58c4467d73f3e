-- `apply_lines::run_lines` meets its contract: each turn takes a line. Assumes nothing.
use Prim.Native.Nat.{◌-◌}
use lib.ListN.{length}
use Rattle.apply_lines.proofs.Running.{Ran}
use Rattle.apply_lines.proofs.run_lines.Given as goal

abbrev pub invariant-loop-at : goal.invariant-loop-at
invariant-loop-at l = Ran l.text l.initial.points l.initial.faces l.initial.work l.n l.p l.points l.faces l.work l.at l.count

abbrev pub decreases-loop-at : goal.decreases-loop-at
decreases-loop-at l = length l.text - l.at
