-- `measure_try::far_apart` meets its contract: antt runs the rules. Assumes nothing.
use mathlib.Core.Path.{ap}
use lib.Ieee.{binary64, to_bits, is_nan}
use Rattle.rules.specs.Open.{every_rule}
use Rattle.measure.specs.Measure.{number_of}
use Rattle.measure_try.proofs.far_apart.Goals as goal

pub same-requires : goal.same-requires
unfolding every_rule is_nan
same-requires c = (ap is_nan c.quality.ensures, ap (to_bits binary64) c.quality.ensures)

pub same-requires-2 : goal.same-requires-2
unfolding every_rule is_nan
same-requires-2 c = (ap is_nan c.area.ensures, ap (to_bits binary64) c.area.ensures)

pub same-requires-3 : goal.same-requires-3
unfolding every_rule is_nan
same-requires-3 c = (ap is_nan c.distance.ensures, ap (to_bits binary64) c.distance.ensures)

pub found-requires : goal.found-requires
unfolding every_rule
found-requires c = ap number_of c.shape.ensures
