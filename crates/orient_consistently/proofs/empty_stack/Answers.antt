-- `orient_consistently::empty_stack` meets its contract: one face a turn. Assumes nothing.
use Rattle.orient_consistently.proofs.Popping.{empty_begin, empty_stop, empty_done, empty_again}
use Rattle.orient_consistently.proofs.empty_stack.Goals as goal

pub loop-init : goal.loop-init
loop-init c = empty_begin c.requires

pub returns-then-work-eq0 : goal.returns-then-work-eq0
returns-then-work-eq0 c = empty_stop c.loop.invariant c.if-work-eq0.true

pub loop-preserved : goal.loop-preserved
loop-preserved c = empty_again c.loop.invariant c.loop-test.true c.pop.ensures

pub returns : goal.returns
returns c = empty_done c.loop.invariant c.loop-test.false
