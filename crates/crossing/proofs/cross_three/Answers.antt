-- `crossing::cross_three` meets its contract. Assumes nothing.
use Rattle.crossing.proofs.Crossings.{first_asks, second_asks, last_asks, three_gives}
use Rattle.crossing.proofs.cross_three.Goals as goal

pub cross-requires : goal.cross-requires
cross-requires c = first_asks c.requires

pub cross-requires-2 : goal.cross-requires-2
cross-requires-2 c = second_asks c.requires c.cross.ensures

pub cross-requires-3 : goal.cross-requires-3
cross-requires-3 c = last_asks c.requires c.cross.ensures c.cross-2.ensures

pub returns : goal.returns
returns c = three_gives c.requires c.cross.ensures c.cross-2.ensures c.cross-3.ensures
