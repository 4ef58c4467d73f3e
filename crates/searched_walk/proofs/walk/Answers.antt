-- `searched_walk::walk` meets its contract: all components are walked, and the words cleaned. Assumes nothing.
use Rattle.searched_walk.proofs.Cleaning.{turned_gives}
use Rattle.searched_walk.proofs.walk.Goals as goal

-- src/lib.rt:272:1
pub returns : goal.returns
returns c = turned_gives c.walk_all-hand.ensures c.clean.ensures
