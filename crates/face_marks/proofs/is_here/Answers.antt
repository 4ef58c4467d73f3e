-- `face_marks::is_here` meets its contract: a number below n, and a byte. Assumes nothing.
use mathlib.Core.Path.{refl}
use borrow.Author.Tests.{lt-ltb, le-ltb}
use Rattle.face_marks.specs.Marks.{here}
use Rattle.face_marks.proofs.is_here.Goals as goal

pub returns-then-f-n : goal.returns-then-f-n
unfolding here
returns-then-f-n c = rw (lt-ltb _ _ c.if-f-n.true) refl

pub returns : goal.returns
returns c = rw (le-ltb _ _ c.if-f-n.false) refl
