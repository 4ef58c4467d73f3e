-- `reaching::reach_run` meets its contract: one face of the run a turn. Assumes nothing.
use Rattle.reaching.proofs.Running.{reach_begin, reach_ask, reach_again, reach_done}
use Rattle.reaching.proofs.reach_run.Goals as goal

pub loop-k-init : goal.loop-k-init
loop-k-init c = reach_begin c.requires

pub reach-requires : goal.reach-requires
reach-requires c = reach_ask c.requires c.loop-k.invariant c.loop-k-test.true

pub loop-k-preserved : goal.loop-k-preserved
loop-k-preserved c = reach_again c.requires c.loop-k.invariant c.loop-k-test.true c.reach.ensures

pub returns : goal.returns
returns c = reach_done c.requires c.loop-k.invariant c.loop-k-test.false
