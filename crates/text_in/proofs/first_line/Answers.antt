-- `text_in::first_line` meets its contract. Assumes nothing.
use mathlib.Core.Path.{sym, ap, ◌∙◌}
use Rattle.rules.specs.Text.{first_line}
use Rattle.text_in.proofs.Cuts.{first_four}
use Rattle.text_in.proofs.first_line.Goals as goal

pub open_job-requires : goal.open_job-requires
open_job-requires c = (rw c.in-Some-Three.field-0-is at c.in-Some-Three.ensures).cuts

pub returns-in-Some-Three : goal.returns-in-Some-Three
returns-in-Some-Three c = c.open_job.ensures ∙ sym (ap first_line (rw c.in-Some-Three.field-0-is at c.in-Some-Three.ensures).fields)

pub returns-in-Some-Four : goal.returns-in-Some-Four
returns-in-Some-Four c = sym (ap first_line (rw c.in-Some-Four.field-0-is at c.in-Some-Four.ensures).fields ∙ first_four _ _ _ _ _)

pub returns-in-None : goal.returns-in-None
returns-in-None c = sym c.in-None.ensures.first
