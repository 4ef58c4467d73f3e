-- `text_in::add_face` meets its contract: one field after the other. Assumes nothing.
use Rattle.text_in.proofs.Growing.{first_bad, second_bad, third_bad, face_full, face_bad, face_good}
use Rattle.text_in.proofs.add_face.Goals as goal

pub returns-then-f-gt189 : goal.returns-then-f-gt189
returns-then-f-gt189 c = face_full _ _ _ c.if-f-gt189.true

pub returns-in_err-x : goal.returns-in_err-x
returns-in_err-x c = rw c.from_residual.ensures (face_bad (rw (← c.in_err-x.ensures) (first_bad _ _)))

pub returns-in_err-y : goal.returns-in_err-y
returns-in_err-y c = rw c.from_residual-in_err-y.ensures (face_bad (rw (← c.in_ok-x.ensures, ← c.in_err-y.ensures) (second_bad _ _)))

pub returns-in_err-z : goal.returns-in_err-z
returns-in_err-z c = rw c.from_residual-in_err-z.ensures (face_bad (rw (← c.in_ok-x.ensures, ← c.in_ok-y.ensures, ← c.in_err-z.ensures) (third_bad _ _)))

pub returns : goal.returns
returns c = rw (← c.in_ok-x.ensures, ← c.in_ok-y.ensures, ← c.in_ok-z.ensures) (face_good _ _ _ c.if-f-gt189.false)
