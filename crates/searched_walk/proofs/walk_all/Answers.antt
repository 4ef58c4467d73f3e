-- `searched_walk::walk_all` meets its contract. The invariant: the walk was begun at the faces that were passed. Assumes nothing.
use native.Mathlib.Omega.{arith}
use Rattle.searched_walk.proofs.Beginning.{all_begin, all_ask, all_again, all_done}
use Rattle.searched_walk.proofs.walk_all.Goals as goal

-- src/lib.rt:252:5
pub loop-f-init : goal.loop-f-init
loop-f-init c = all_begin c.requires.all_asks

-- src/lib.rt:253:9
pub begin-now-requires : goal.begin-now-requires
begin-now-requires c = record { begin_asks = all_ask c.requires.all_asks c.loop-f.invariant (omega arith); indexed = c.requires.indexed }

-- src/lib.rt:252:5
pub loop-f-preserved : goal.loop-f-preserved
loop-f-preserved c = all_again c.requires.all_asks c.loop-f.invariant (omega arith) c.begin-now.ensures

-- src/lib.rt:240:1
pub shape_of-words : goal.shape_of-words
shape_of-words c = c.loop-f.invariant.kept.long

-- src/lib.rt:240:1
pub returns : goal.returns
returns c = all_done c.requires.all_asks c.loop-f.invariant (omega arith)
