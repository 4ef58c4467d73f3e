-- `face_marks::has_point` meets its contract: one corner after the other. Assumes nothing.
use mathlib.Core.Path.{refl, sym, ◌∙◌}
use Rattle.face_marks.specs.Marks.{keeps}
use Rattle.face_marks.proofs.has_point.Goals as goal

pub returns-then-is_free : goal.returns-then-is_free
unfolding keeps
returns-then-is_free c = rw (sym c.is_free.ensures ∙ c.if-is_free.true) refl

pub returns-then-is_free-2 : goal.returns-then-is_free-2
unfolding keeps
returns-then-is_free-2 c = rw (sym c.is_free.ensures ∙ c.if-is_free.false, sym c.is_free-2.ensures ∙ c.if-is_free-2.true) refl

pub returns : goal.returns
unfolding keeps
returns c = rw (sym c.is_free.ensures ∙ c.if-is_free.false, sym c.is_free-2.ensures ∙ c.if-is_free-2.false) c.is_free-3.ensures
