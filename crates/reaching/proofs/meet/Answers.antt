-- `reaching::meet` meets its contract. Assumes nothing.
use mathlib.Core.Path.{sym, ◌∙◌}
use Rattle.reaching.proofs.Neighbours.{met_self, met_new, met_agreeing, met_odd}
use Rattle.reaching.proofs.meet.Goals as goal

pub returns-then-i-j : goal.returns-then-i-j
returns-then-i-j c = met_self _ _ _ c.requires c.if-i-j.true

pub returns-then-work-i-eq0 : goal.returns-then-work-i-eq0
returns-then-work-i-eq0 c = met_new _ _ _ c.requires c.if-i-j.false c.if-work-i-eq0.true c.reach.ensures

pub returns-then-stands : goal.returns-then-stands
returns-then-stands c = met_agreeing _ _ _ c.requires c.if-i-j.false c.if-work-i-eq0.false (sym c.if-stands.true ∙ c.stands.ensures)

pub returns : goal.returns
returns c = met_odd _ _ _ c.requires c.if-i-j.false c.if-work-i-eq0.false (sym c.if-stands.false ∙ c.stands.ensures)
