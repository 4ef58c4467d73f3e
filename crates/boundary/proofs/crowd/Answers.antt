-- `boundary::crowd` meets its contract: 7 by the runs. Assumes nothing.
use Rattle.boundary.proofs.Ending.{starts_fit, crowd_seven, crowd_none}
use Rattle.boundary.proofs.crowd.Goals as goal

pub crowded-requires : goal.crowded-requires
crowded-requires c = starts_fit c.requires

pub returns-in-Some : goal.returns-in-Some
returns-in-Some c = crowd_seven c.in-Some.ensures

pub returns-in-None : goal.returns-in-None
returns-in-None c = crowd_none c.in-None.ensures
