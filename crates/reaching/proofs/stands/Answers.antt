-- `reaching::stands` meets its contract. Assumes nothing.
use Rattle.reaching.proofs.Reading.{stands_turned, stands_straight}
use Rattle.reaching.proofs.stands.Goals as goal

pub returns-then-work-i-eq2 : goal.returns-then-work-i-eq2
returns-then-work-i-eq2 c = stands_turned c.requires _ _ c.if-work-i-eq2.true c.makes.ensures

pub returns : goal.returns
returns c = stands_straight c.requires _ _ c.if-work-i-eq2.false c.makes-2.ensures
