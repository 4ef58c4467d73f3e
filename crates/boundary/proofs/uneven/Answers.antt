-- `boundary::uneven` meets its contract: no vertex before i is at fault. Assumes nothing.
use Rattle.refuse.proofs.Scans.{clean_begin, clean_more}
use Rattle.boundary.proofs.Scans.{first_at, first_none, fault_some, fault_none}
use Rattle.boundary.proofs.uneven.Goals as goal

pub loop-i-init : goal.loop-i-init
loop-i-init c = clean_begin _ _

pub returns-then-begins-work : goal.returns-then-begins-work
returns-then-begins-work c = first_at c.loop-i.invariant c.loop-i-test.true (fault_some _ _ c.then-begins-work.either)

pub loop-i-preserved : goal.loop-i-preserved
loop-i-preserved c = clean_more _ _ _ c.loop-i.invariant c.loop-i-test.true (fault_none _ _ c.if-begins-work.false c.if-begins-gt1.false)

pub returns : goal.returns
returns c = first_none c.loop-i.invariant c.loop-i-test.false
