-- `orient_consistently::start` meets its contract. Assumes nothing.
use Rattle.orient_consistently.proofs.Starting.{start_gives}
use Rattle.orient_consistently.proofs.start.Goals as goal

pub returns : goal.returns
returns c = start_gives c.requires
