-- `searched_unused::unused_length` meets its contract. The invariant: the lines of the points that were passed are added up. Assumes nothing.
use Rattle.searched_unused.proofs.Adding.{Added}
use Rattle.searched_unused.proofs.unused_length.Given as goal

abbrev pub invariant-loop-v : goal.invariant-loop-v
invariant-loop-v l = Added l.faces l.words l.points l.bytes l.v
