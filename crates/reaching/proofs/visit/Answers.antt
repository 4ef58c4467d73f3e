-- `reaching::visit` meets its contract. Assumes nothing.
use Rattle.reaching.proofs.Visiting.{visit_gives}
use Rattle.reaching.proofs.visit.Goals as goal

pub returns : goal.returns
returns c = visit_gives c.requires
