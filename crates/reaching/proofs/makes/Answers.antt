-- `reaching::makes` meets its contract: its steps are compared one after the other. Assumes nothing.
use mathlib.Core.Path.{sym, ◌∙◌}
use Rattle.reaching.proofs.Reading.{makes_first, makes_second, makes_third}
use Rattle.reaching.proofs.makes.Goals as goal
use Rattle.reaching.proofs.makes.Goals.{else-is_step, then-is_step}

pub returns-then-is_step-2 : goal.returns-then-is_step-2
returns-then-is_step-2 c = elim c.if-is_step.branch [ then-is_step w ↦ rw c.if-is_step-2.true (makes_first _ _ _ _ c.requires (sym w.if-is_step.true ∙ c.is_step.ensures)) | else-is_step w ↦ rw c.if-is_step-2.true (makes_second _ _ _ _ c.requires (sym w.if-is_step.false ∙ c.is_step.ensures) (sym c.if-is_step-2.true ∙ w.value-is ∙ w.is_step-else-is_step.ensures)) ]

pub returns-else-is_step-2 : goal.returns-else-is_step-2
returns-else-is_step-2 c = elim c.if-is_step.branch [ then-is_step w ↦ cc | else-is_step w ↦ makes_third _ _ _ _ c.requires (sym w.if-is_step.false ∙ c.is_step.ensures) (sym c.if-is_step-2.false ∙ w.value-is ∙ w.is_step-else-is_step.ensures) c.is_step-else-is_step-2.ensures ]
