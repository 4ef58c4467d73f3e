-- `list_check::exchange_line` meets its contract: order, and a face that is there. Assumes nothing.
use mathlib.Core.Path.{sym, refl, ◌∙◌}
use Rattle.list_check.proofs.Order.{not_behind, is_behind}
use Rattle.list_check.proofs.Single.{bad_order, numbered_exchange, bad_exchange, on_exchange}
use Rattle.list_check.proofs.exchange_line.Goals as goal

pub returns-then-ge : goal.returns-then-ge
returns-then-ge c = λ P xs u e r. bad_order (numbered_exchange _) (not_behind _ _ c.ge.ensures c.if-ge.true)

pub returns-then-not-is_here : goal.returns-then-not-is_here
returns-then-not-is_here c = λ P xs u e r. bad_exchange _ (rw e (sym c.if-not-is_here.true ∙ c.is_here.ensures))

pub returns : goal.returns
returns c = λ P xs u e r. record { ends = refl; on = on_exchange _ r (is_behind _ _ c.ge.ensures c.if-ge.false) (rw e (sym c.if-not-is_here.false ∙ c.is_here.ensures)) }
