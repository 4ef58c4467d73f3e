-- `orient_consistently::begin` meets its contract. Assumes nothing.
use Rattle.orient_consistently.proofs.Beginning.{begin_old, empty_asks, begin_plain, begin_marked}
use Rattle.orient_consistently.proofs.begin.Goals as goal

pub returns-then-work-i-ne0 : goal.returns-then-work-i-ne0
returns-then-work-i-ne0 c = begin_old c.requires c.if-work-i-ne0.true

pub empty_stack-requires : goal.empty_stack-requires
empty_stack-requires c = empty_asks c.requires c.if-work-i-ne0.false c.start.ensures

pub returns-then-work-eq0 : goal.returns-then-work-eq0
returns-then-work-eq0 c = begin_plain c.requires c.if-work-i-ne0.false c.start.ensures c.empty_stack.ensures c.if-work-eq0.true

pub returns : goal.returns
returns c = begin_marked c.requires c.if-work-i-ne0.false c.start.ensures c.empty_stack.ensures c.if-work-eq0.false
