-- `reaching::lone` meets its contract: one face of the run a turn. Assumes nothing.
use Rattle.reaching.proofs.Running.{lone_begin, lone_ask, lone_again, lone_done}
use Rattle.reaching.proofs.lone.Goals as goal

pub loop-k-init : goal.loop-k-init
loop-k-init c = lone_begin c.requires

pub met-known-requires : goal.met-known-requires
met-known-requires c = lone_ask c.requires c.loop-k.invariant c.loop-k-test.true

pub loop-k-preserved : goal.loop-k-preserved
loop-k-preserved c = lone_again c.requires c.loop-k.invariant c.loop-k-test.true c.met-known.ensures

pub returns : goal.returns
returns c = lone_done c.requires c.loop-k.invariant c.loop-k-test.false
