-- `text_in::add_line` meets its contract. Assumes nothing.
use mathlib.Core.Path.{sym, ap, ◌∙◌}
use Rattle.rules.specs.Text.{with_line}
use Rattle.text_in.proofs.Cuts.{with_three}
use Rattle.text_in.proofs.Growing.{grows_none}
use Rattle.text_in.proofs.add_line.Goals as goal

pub add_fields-requires : goal.add_fields-requires
add_fields-requires c = record { cuts = (rw c.in-Some-Four.field-0-is at c.in-Some-Four.ensures).cuts; rooms = c.requires }

pub returns-in-Some-Four : goal.returns-in-Some-Four
returns-in-Some-Four c = rw (sym (rw c.in-Some-Four.field-0-is at c.in-Some-Four.ensures).fields) at c.add_fields.ensures

pub returns-in-Some-Three : goal.returns-in-Some-Three
returns-in-Some-Three c = grows_none (λ j. ap (with_line j) (rw c.in-Some-Three.field-0-is at c.in-Some-Three.ensures).fields ∙ with_three j _ _ _)

pub returns-in-None : goal.returns-in-None
returns-in-None c = grows_none c.in-None.ensures.further
