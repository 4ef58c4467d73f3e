-- `searched_walk::count_standing` meets its contract. The invariant: the faces that were passed and stand are counted. Assumes nothing.
use native.Mathlib.Omega.{arith}
use Rattle.searched_walk.proofs.Cleaning.{count_begin, count_few, count_one, count_none, count_done}
use Rattle.searched_walk.proofs.count_standing.Goals as goal
use Rattle.searched_walk.proofs.count_standing.Goals.{else-stands, then-stands}

-- src/lib.rt:230:5
pub loop-f-init : goal.loop-f-init
loop-f-init c = count_begin

-- src/lib.rt:231:12
pub stands-requires : goal.stands-requires
stands-requires c = c.loop-f-test.true

-- src/lib.rt:232:13
pub overflow_add-n : goal.overflow_add-n
overflow_add-n c = omega (arith, count_few c.loop-f.invariant)

-- src/lib.rt:230:5
pub loop-f-preserved : goal.loop-f-preserved
loop-f-preserved c = elim c.if-stands.branch [ then-stands w ↦ rw w.n-is (count_one c.loop-f.invariant c.loop-f-test.true c.stands.ensures w.if-stands.true) | else-stands w ↦ rw w.n-is (count_none c.loop-f.invariant c.loop-f-test.true c.stands.ensures w.if-stands.false) ]

-- src/lib.rt:225:1
pub returns : goal.returns
returns c = count_done c.loop-f.invariant c.loop-f-test.false
