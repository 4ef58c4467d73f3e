-- `list_lines::all_rise` meets its contract: the fields before `at` rise. Assumes nothing.
use Prim.Native.Nat.{◌-◌}
use lib.ListN.{length}
use Rattle.list_lines.proofs.Rises.{Rise}
use Rattle.list_lines.proofs.all_rise.Given as goal

abbrev pub invariant-loop-at : goal.invariant-loop-at
invariant-loop-at l = Rise l.fields l.at l.least

abbrev pub decreases-loop-at : goal.decreases-loop-at
decreases-loop-at l = length l.fields - l.at
