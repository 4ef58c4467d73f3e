-- `list_check::drop_line` meets its contract: order, and a face that is there. Assumes nothing.
use mathlib.Core.Path.{sym, refl, ◌∙◌}
use Rattle.list_check.proofs.Order.{not_behind, is_behind}
use Rattle.list_check.proofs.Single.{there_fits, bad_order, numbered_dropped, bad_dropped, on_dropped}
use Rattle.list_check.proofs.drop_line.Goals as goal

pub returns-then-ge : goal.returns-then-ge
returns-then-ge c = λ P xs u e r. bad_order (numbered_dropped _ _) (rw (← c.section_of.ensures) (not_behind _ _ c.ge.ensures c.if-ge.true))

pub returns-then-not-is_here : goal.returns-then-not-is_here
returns-then-not-is_here c = λ P xs u e r. bad_dropped _ _ (rw e (sym c.if-not-is_here.true ∙ c.is_here.ensures))

pub bounds-marks-face : goal.bounds-marks-face
bounds-marks-face c = there_fits _ _ _ c.requires (sym c.if-not-is_here.false ∙ c.is_here.ensures)

pub returns : goal.returns
returns c = λ P xs u e r. record { ends = refl; on = rw c.section_of.ensures (on_dropped _ _ r (rw (← c.section_of.ensures) (is_behind _ _ c.ge.ensures c.if-ge.false)) (rw e (sym c.if-not-is_here.false ∙ c.is_here.ensures))) }
