-- `searched_walk::count_standing` meets its contract. The invariant: the faces that were passed and stand are counted. Assumes nothing.
use Rattle.searched_walk.proofs.Cleaning.{Standings}
use Rattle.searched_walk.proofs.count_standing.Given as goal

abbrev pub invariant-loop-f : goal.invariant-loop-f
invariant-loop-f l = Standings l.words l.n l.f
