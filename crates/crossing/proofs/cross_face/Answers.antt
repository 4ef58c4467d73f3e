-- `crossing::cross_face` meets its contract. Assumes nothing.
use Rattle.crossing.proofs.Crossings.{turned_asks, straight_asks, turned_gives, straight_gives}
use Rattle.crossing.proofs.cross_face.Goals as goal

pub cross_three-requires : goal.cross_three-requires
cross_three-requires c = turned_asks c.requires

pub cross_three-requires-else-work-j-eq2 : goal.cross_three-requires-else-work-j-eq2
cross_three-requires-else-work-j-eq2 c = straight_asks c.requires

pub returns-then-work-j-eq2 : goal.returns-then-work-j-eq2
returns-then-work-j-eq2 c = turned_gives c.requires c.if-work-j-eq2.true c.cross_three.ensures

pub returns-else-work-j-eq2 : goal.returns-else-work-j-eq2
returns-else-work-j-eq2 c = straight_gives c.requires c.if-work-j-eq2.false c.cross_three-else-work-j-eq2.ensures
