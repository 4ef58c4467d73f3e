-- `text_in::add_point` meets its contract: one field after the other. Assumes nothing.
use Rattle.text_in.proofs.Growing.{first_bad, second_bad, third_bad, point_full, point_bad, point_good}
use Rattle.text_in.proofs.add_point.Goals as goal

pub returns-then-p-gt189 : goal.returns-then-p-gt189
returns-then-p-gt189 c = point_full _ _ _ c.if-p-gt189.true

pub returns-in_err-x : goal.returns-in_err-x
returns-in_err-x c = rw c.from_residual.ensures (point_bad (rw (← c.in_err-x.ensures) (first_bad _ _)))

pub returns-in_err-y : goal.returns-in_err-y
returns-in_err-y c = rw c.from_residual-in_err-y.ensures (point_bad (rw (← c.in_ok-x.ensures, ← c.in_err-y.ensures) (second_bad _ _)))

pub returns-in_err-z : goal.returns-in_err-z
returns-in_err-z c = rw c.from_residual-in_err-z.ensures (point_bad (rw (← c.in_ok-x.ensures, ← c.in_ok-y.ensures, ← c.in_err-z.ensures) (third_bad _ _)))

pub returns : goal.returns
returns c = rw (← c.in_ok-x.ensures, ← c.in_ok-y.ensures, ← c.in_ok-z.ensures) (point_good _ _ _ c.if-p-gt189.false)
