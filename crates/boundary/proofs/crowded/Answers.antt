-- `boundary::crowded` meets its contract: no run before i is long. Assumes nothing.
use borrow.Author.Tests.{lt-ltb, le-ltb}
use Rattle.refuse.proofs.Scans.{clean_begin, clean_more}
use Rattle.boundary.proofs.Scans.{first_at, first_none}
use Rattle.boundary.proofs.crowded.Goals as goal

pub loop-i-init : goal.loop-i-init
loop-i-init c = clean_begin _ _

pub returns-then-from-to : goal.returns-then-from-to
returns-then-from-to c = first_at c.loop-i.invariant c.loop-i-test.true (lt-ltb _ _ c.if-from-to.true)

pub loop-i-preserved : goal.loop-i-preserved
loop-i-preserved c = clean_more _ _ _ c.loop-i.invariant c.loop-i-test.true (le-ltb _ _ c.if-from-to.false)

pub returns : goal.returns
returns c = first_none c.loop-i.invariant c.loop-i-test.false
