-- `measure_try::found` meets its contract: the number is the one asked for. Assumes nothing.
use mathlib.Core.Path.{◌∙◌}
use borrow.Author.Tests.{eq-eqb}
use Rattle.measure_try.proofs.found.Goals as goal

pub expect-requires : goal.expect-requires
expect-requires c = eq-eqb c.from.result c.args.what (c.from.ensures ∙ c.requires)
