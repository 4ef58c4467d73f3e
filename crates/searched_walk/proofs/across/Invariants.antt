-- `searched_walk::across` meets its contract. The invariant: the users of the edge among the faces that were passed were met. Assumes nothing.
use Prim.Native.Nat.{◌-◌}
use lib.ListN.{length}
use Rattle.rules.specs.Steps.{step}
use Rattle.searched_walk.proofs.Meeting.{Crossed}
use Rattle.searched_walk.proofs.across.Given as goal

abbrev pub invariant-loop-g : goal.invariant-loop-g
invariant-loop-g l = Crossed l.faces l.initial.words l.initial.now l.j (step l.a l.b) l.words l.now l.g

abbrev pub decreases-loop-g : goal.decreases-loop-g
decreases-loop-g l = length l.initial.words - l.g
