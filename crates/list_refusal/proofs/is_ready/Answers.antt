-- `list_refusal::is_ready` meets its contract: the first two parts are tested, and the third decides. Assumes nothing.
use native.Mathlib.Omega.{arith}
use Rattle.list_refusal.proofs.Parts.{told_last, told_no}
use Rattle.list_refusal.proofs.is_ready.Goals as goal

pub returns-then-origins-f : goal.returns-then-origins-f
returns-then-origins-f c = told_last (omega arith) (omega arith) c.stated_rest.ensures

pub returns-else-origins-f : goal.returns-else-origins-f
returns-else-origins-f c = told_no (λ r. absurd (omega (arith, r)))

pub returns-else-corners-f : goal.returns-else-corners-f
returns-else-corners-f c = told_no (λ r. absurd (omega (arith, r)))
