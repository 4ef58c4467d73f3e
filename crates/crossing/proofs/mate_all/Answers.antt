-- `crossing::mate_all` meets its contract: one run a turn. Assumes nothing.
use Rattle.crossing.proofs.Mating.{mates_begin, mates_ask, mates_again}
use Rattle.crossing.proofs.mate_all.Goals as goal

pub loop-r-init : goal.loop-r-init
loop-r-init c = mates_begin c.requires

pub mate-requires : goal.mate-requires
mate-requires c = mates_ask c.requires c.loop-r.invariant c.loop-r-test.true

pub loop-r-preserved : goal.loop-r-preserved
loop-r-preserved c = mates_again c.requires c.loop-r.invariant c.loop-r-test.true c.mate.ensures

pub returns : goal.returns
returns c = c.loop-r.invariant.gives
