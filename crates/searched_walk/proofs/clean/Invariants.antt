-- `searched_walk::clean` meets its contract. The invariant: the words that were passed are cleaned. Assumes nothing.
use Rattle.searched_walk.proofs.Cleaning.{Cleaned}
use Rattle.searched_walk.proofs.clean.Given as goal

abbrev pub invariant-loop-word : goal.invariant-loop-word
invariant-loop-word l = Cleaned l.initial.words l.words l.word-index
