-- `apply_lines::take_over` meets its contract: each turn reads a face and renames it. Assumes nothing.
use Prim.Native.Nat.{◌-◌}
use Rattle.apply_lines.proofs.Taking.{Taking}
use Rattle.apply_lines.proofs.take_over.Given as goal

abbrev pub invariant-loop-at : goal.invariant-loop-at
invariant-loop-at l = Taking l.text l.from l.end l.initial.faces l.n l.old l.new l.faces l.at

abbrev pub decreases-loop-at : goal.decreases-loop-at
decreases-loop-at l = l.end - l.at
