-- `face_marks::taken` meets its contract: a bit more, if the corner was free. Assumes nothing.
use mathlib.Core.Path.{refl, sym, ◌∙◌}
use Rattle.face_marks.specs.Marks.{takes}
use Rattle.face_marks.proofs.taken.Goals as goal

pub returns-then-is_free : goal.returns-then-is_free
unfolding takes
returns-then-is_free c = rw (sym c.is_free.ensures ∙ c.if-is_free.true) refl

pub returns : goal.returns
unfolding takes
returns c = rw (sym c.is_free.ensures ∙ c.if-is_free.false) refl
