-- `searched_ranks::rank` meets its contract: face after face. Assumes nothing.
use Rattle.searched_ranks.proofs.Counting.{Counted}
use Rattle.searched_ranks.proofs.rank.Given as goal

abbrev pub invariant-loop-g : goal.invariant-loop-g
invariant-loop-g l = Counted l.faces l.words l.v l.id l.count l.g
