-- `searched_walk::walk_all` meets its contract. The invariant: the walk was begun at the faces that were passed. Assumes nothing.
use Rattle.searched_walk.proofs.Beginning.{Begun}
use Rattle.searched_walk.proofs.walk_all.Given as goal

abbrev pub invariant-loop-f : goal.invariant-loop-f
invariant-loop-f l = Begun l.faces l.initial.words l.words l.now l.f
