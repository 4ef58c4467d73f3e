-- `face_marks::is_free` meets its contract: the point, and a bit. Assumes nothing.
use mathlib.Core.Path.{refl}
use borrow.Author.Tests.{eq-eqb, ne_eqb}
use Rattle.face_marks.specs.Marks.{free}
use Rattle.face_marks.proofs.is_free.Goals as goal

pub returns-then-v-x : goal.returns-then-v-x
unfolding free
returns-then-v-x c = rw (eq-eqb _ _ c.if-v-x.true) refl

pub returns : goal.returns
unfolding free
returns c = rw (ne_eqb _ _ c.if-v-x.false) refl
