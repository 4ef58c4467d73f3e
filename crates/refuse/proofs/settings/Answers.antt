-- `refuse::settings` meets its contract. Assumes nothing.
use mathlib.Core.Path.{sym, ◌∙◌}
use lib.Ieee.{of_bits}
use Rattle.refuse.proofs.Groups.{last, stop_at, go_past}
use Rattle.refuse.proofs.Singles.{in_unit, not_in_unit, six_bits, more_bits}
use Rattle.refuse.proofs.settings.Goals as goal

pub returns-then-options-le63 : goal.returns-then-options-le63
unfolding of_bits
returns-then-options-le63 c = go_past _ _ _ (in_unit _ (sym c.within.ensures ∙ c.if-within.true)) (last _ _ (six_bits _ c.if-options-le63.true))

pub returns-then-within : goal.returns-then-within
unfolding of_bits
returns-then-within c = go_past _ _ _ (in_unit _ (sym c.within.ensures ∙ c.if-within.true)) (last _ _ (more_bits _ c.if-options-le63.false))

pub returns : goal.returns
unfolding of_bits
returns c = stop_at _ _ _ _ (not_in_unit _ (sym c.within.ensures ∙ c.if-within.false))
