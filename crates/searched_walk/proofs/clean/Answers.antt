-- `searched_walk::clean` meets its contract. The invariant: the words that were passed are cleaned. Assumes nothing.
use native.Mathlib.Omega.{arith}
use Rattle.searched_walk.proofs.Cleaning.{clean_begin, clean_again, clean_done}
use Rattle.searched_walk.proofs.clean.Goals as goal

pub loop-word-init : goal.loop-word-init
loop-word-init c = clean_begin

pub loop-word-preserved : goal.loop-word-preserved
loop-word-preserved c = clean_again c.loop-word.invariant (omega arith)

pub returns : goal.returns
returns c = clean_done c.loop-word.invariant (omega arith)
