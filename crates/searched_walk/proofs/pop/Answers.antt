-- `searched_walk::pop` meets its contract: the top face crosses its edges. Assumes nothing.
use Rattle.searched_walk.proofs.Popping.{top_in, pop_ask, pop_gives}
use Rattle.searched_walk.proofs.pop.Goals as goal

-- src/lib.rt:160:14
pub bounds-words-j : goal.bounds-words-j
bounds-words-j c = (top_in c.requires.pop_asks).0

-- src/lib.rt:166:5
pub cross_face-requires : goal.cross_face-requires
cross_face-requires c = record { meet_asks = pop_ask c.requires.pop_asks; indexed = c.requires.indexed }

-- src/lib.rt:154:1
pub returns : goal.returns
returns c = pop_gives c.requires.pop_asks c.cross_face.ensures
