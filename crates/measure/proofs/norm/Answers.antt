-- `measure::norm` meets its contract. Assumes nothing.
use mathlib.Core.Path.{ap, ◌∙◌}
use Rattle.root.specs.Root.{root_of}
use Rattle.rules.specs.Float.{norm}
use Rattle.measure.proofs.norm.Goals as goal

pub returns : goal.returns
unfolding norm
returns c = c.root.ensures ∙ ap root_of c.square.ensures
