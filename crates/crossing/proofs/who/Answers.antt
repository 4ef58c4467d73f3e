-- `crossing::who` meets its contract. Assumes nothing.
use Rattle.crossing.proofs.Noting.{who_up, who_down}
use Rattle.crossing.proofs.who.Goals as goal

pub returns-then-x-y : goal.returns-then-x-y
returns-then-x-y c = who_up c.requires _ _ c.if-x-y.true

pub returns-else-x-y : goal.returns-else-x-y
returns-else-x-y c = who_down c.requires _ _ c.if-x-y.false
