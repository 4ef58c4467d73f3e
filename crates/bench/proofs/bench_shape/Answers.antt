-- `bench::bench_shape` meets its contract: the number of what the test finds. Assumes nothing.
use mathlib.Core.Path.{ap, ◌∙◌}
use Rattle.measure.specs.Measure.{number_of}
use Rattle.bench.proofs.bench_shape.Goals as goal

pub returns : goal.returns
returns c = c.from.ensures ∙ ap number_of c.shape.ensures
