-- `searched_splits::met` meets its contract. The invariant: none of the faces that were passed has the point. Assumes nothing.
use Prim.Native.Nat.{◌-◌}
use Rattle.searched_splits.proofs.Reading.{None}
use Rattle.searched_splits.proofs.met.Given as goal

abbrev pub invariant-loop-g : goal.invariant-loop-g
invariant-loop-g l = None l.faces l.words l.v l.g

abbrev pub decreases-loop-g : goal.decreases-loop-g
decreases-loop-g l = l.f - l.g
