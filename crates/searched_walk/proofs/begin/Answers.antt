-- `searched_walk::begin` meets its contract: a face that is gone or visited starts nothing. Assumes nothing.
use native.Mathlib.Omega.{arith}
use Rattle.searched_walk.proofs.Beginning.{begin_gone, begin_seen, start_ask, mark_bounds, begin_walked}
use Rattle.searched_walk.proofs.begin.Goals as goal

-- src/lib.rt:208:9
pub returns-then-not-stands : goal.returns-then-not-stands
returns-then-not-stands c = begin_gone c.requires.begin_asks c.stands.ensures c.if-not-stands.true

-- src/lib.rt:211:9
pub returns-then-seen : goal.returns-then-seen
returns-then-seen c = begin_seen c.requires.begin_asks c.stands.ensures c.if-not-stands.false c.seen.ensures c.if-seen.true

-- src/lib.rt:213:9
pub component-walked-requires : goal.component-walked-requires
component-walked-requires c = record { start_asks = start_ask c.requires.begin_asks c.stands.ensures c.if-not-stands.false c.seen.ensures c.if-seen.false; indexed = c.requires.indexed }

-- src/lib.rt:214:17
pub overflow_sub-marks : goal.overflow_sub-marks
overflow_sub-marks c = omega (arith, mark_bounds c.requires.begin_asks c.stands.ensures c.if-not-stands.false c.seen.ensures c.if-seen.false c.component-walked.ensures c.one_more.ensures)

-- src/lib.rt:203:1
pub returns : goal.returns
returns c = begin_walked c.requires.begin_asks c.stands.ensures c.if-not-stands.false c.seen.ensures c.if-seen.false c.component-walked.ensures c.one_more.ensures
