-- `searched_fans::cross` meets its contract: face after face. The measure is the number of faces to come. Assumes nothing.
use Prim.Native.Nat.{◌-◌}
use lib.ListN.{length}
use Rattle.searched_fans.proofs.Crossing.{Met}
use Rattle.searched_fans.proofs.cross.Given as goal

abbrev pub invariant-loop-g : goal.invariant-loop-g
invariant-loop-g l = Met l.faces l.initial.words l.v l.x l.words l.g

abbrev pub decreases-loop-g : goal.decreases-loop-g
decreases-loop-g l = length l.initial.words - l.g
