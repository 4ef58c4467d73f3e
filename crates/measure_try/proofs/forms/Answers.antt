-- `measure_try::forms` meets its contract: antt runs the rules. Assumes nothing.
use mathlib.Core.Path.{ap}
use Rattle.rules.specs.Open.{every_rule}
use Rattle.measure.specs.Measure.{number_of}
use Rattle.measure_try.proofs.forms.Goals as goal

pub found-requires : goal.found-requires
unfolding every_rule
found-requires c = ap number_of c.shape.ensures

pub found-requires-2 : goal.found-requires-2
unfolding every_rule
found-requires-2 c = ap number_of c.shape-2.ensures

pub found-requires-3 : goal.found-requires-3
unfolding every_rule
found-requires-3 c = ap number_of c.shape-3.ensures

pub found-requires-4 : goal.found-requires-4
unfolding every_rule
found-requires-4 c = ap number_of c.shape-4.ensures
