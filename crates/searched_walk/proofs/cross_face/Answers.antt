-- `searched_walk::cross_face` meets its contract: one step after the other. Assumes nothing.
use Rattle.searched_walk.proofs.Popping.{still_ask, crossed}
use Rattle.searched_walk.proofs.cross_face.Goals as goal

-- src/lib.rt:149:9
pub across-second-requires : goal.across-second-requires
across-second-requires c = record { meet_asks = still_ask c.requires.meet_asks c.across-first.ensures; indexed = c.requires.indexed }

-- src/lib.rt:150:5
pub across-requires : goal.across-requires
across-requires c = record { meet_asks = still_ask (still_ask c.requires.meet_asks c.across-first.ensures) c.across-second.ensures; indexed = c.requires.indexed }

-- src/lib.rt:143:1
pub returns : goal.returns
returns c = crossed c.view-v.ensures c.across-first.ensures c.across-second.ensures c.across.ensures
