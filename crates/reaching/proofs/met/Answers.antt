-- `reaching::met` meets its contract. Assumes nothing.
use mathlib.Core.Path.{sym, ◌∙◌}
use Rattle.reaching.proofs.Meeting.{met_none, met_alone, met_same, met_many}
use Rattle.reaching.proofs.met.Goals as goal

pub returns-then-stands : goal.returns-then-stands
returns-then-stands c = met_none _ _ _ _ _ (sym c.if-stands.true ∙ c.stands.ensures)

pub returns-then-known-eq0 : goal.returns-then-known-eq0
returns-then-known-eq0 c = met_alone _ _ _ _ _ (sym c.if-stands.false ∙ c.stands.ensures) c.if-known-eq0.true

pub returns-then-known-alone : goal.returns-then-known-alone
returns-then-known-alone c = met_same _ _ _ _ _ (sym c.if-stands.false ∙ c.stands.ensures) c.if-known-eq0.false c.if-known-alone.true

pub returns : goal.returns
returns c = met_many _ _ _ _ _ (sym c.if-stands.false ∙ c.stands.ensures) c.if-known-eq0.false c.if-known-alone.false
