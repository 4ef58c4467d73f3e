-- `orient_consistently::lay` meets its contract. Assumes nothing.
use Rattle.orient_consistently.proofs.Orienting.{mates_asks, lay_gives}
use Rattle.orient_consistently.proofs.lay.Goals as goal

pub mate_all-requires : goal.mate_all-requires
mate_all-requires c = mates_asks c.requires c.clear.ensures.only c.clear.ensures.filled

pub returns : goal.returns
returns c = lay_gives c.requires c.clear.ensures.only c.clear.ensures.filled c.mate_all.ensures
