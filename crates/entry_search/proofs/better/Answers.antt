-- `entry_search::better` meets its contract. What is held against the new quality is the quality of the choice. Assumes nothing.
use Rattle.entry_search.proofs.Holding.{taken_first, taken, left}
use Rattle.entry_search.proofs.better.Goals as goal

pub returns-in-Some : goal.returns-in-Some
returns-in-Some c = left c.quality-q.ensures c.in-Some.is c.outranks.ensures c.if-not-outranks.true

pub returns-in_default : goal.returns-in_default
returns-in_default c = taken c.quality-q.ensures c.in-Some.is c.outranks.ensures c.if-not-outranks.false

pub returns-in_default-2 : goal.returns-in_default-2
returns-in_default-2 c = taken_first c.quality-q.ensures c.in_default.is
