-- `entry_search::best_entry` meets its contract. The invariant: the choice is the best of the wanted entries of the faces that were passed. Assumes nothing.
use Prim.Native.Nat.{◌-◌}
use lib.ListN.{length}
use Rattle.rules.specs.Steps.{step}
use Rattle.entry_search.proofs.Picking.{Picked}
use Rattle.entry_search.proofs.best_entry.Given as goal

abbrev pub invariant-loop-f : goal.invariant-loop-f
invariant-loop-f l = Picked l.points l.faces l.words l.directed (step l.a l.b) l.walk l.but l.best l.f

abbrev pub decreases-loop-f : goal.decreases-loop-f
decreases-loop-f l = length l.words - l.f
