-- `searched_unused::is_used` meets its contract. The invariant: none of the faces that were passed holds the point. Assumes nothing.
use Prim.Native.Nat.{◌-◌}
use lib.ListN.{length}
use Rattle.searched_unused.proofs.Using.{NoneYet}
use Rattle.searched_unused.proofs.is_used.Given as goal

abbrev pub invariant-loop-g : goal.invariant-loop-g
invariant-loop-g l = NoneYet l.faces l.words l.v l.g

abbrev pub decreases-loop-g : goal.decreases-loop-g
decreases-loop-g l = length l.words - l.g
