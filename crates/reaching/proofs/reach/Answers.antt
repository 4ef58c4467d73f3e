-- `reaching::reach` meets its contract. Assumes nothing.
use mathlib.Core.Path.{sym, ◌∙◌}
use native.Mathlib.Omega.{arith}
use Rattle.reaching.proofs.Visiting.{visit_asks, reached_new, reached_old}
use Rattle.reaching.proofs.reach.Goals as goal

pub visit-requires : goal.visit-requires
visit-requires c = visit_asks _ c.requires c.if-work-i-eq0.true (omega arith) (omega arith)

pub visit-requires-else-stands : goal.visit-requires-else-stands
visit-requires-else-stands c = visit_asks _ c.requires c.if-work-i-eq0.true (omega arith) (omega arith)

pub returns-then-stands : goal.returns-then-stands
returns-then-stands c = reached_new _ _ c.requires c.if-work-i-eq0.true (omega arith) (omega arith) (sym c.if-stands.true ∙ c.stands.ensures) c.visit.ensures

pub returns-else-stands : goal.returns-else-stands
returns-else-stands c = reached_new _ _ c.requires c.if-work-i-eq0.true (omega arith) (omega arith) (sym c.if-stands.false ∙ c.stands.ensures) c.visit-else-stands.ensures

pub returns-else-work-i-eq0 : goal.returns-else-work-i-eq0
returns-else-work-i-eq0 c = reached_old _ _ c.requires c.if-work-i-eq0.false
