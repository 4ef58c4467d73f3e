-- `entry_search::along` meets its contract: the opposite step, where direction does not matter. Assumes nothing.
use Rattle.rules.specs.Steps.{step}
use Rattle.entry_search.proofs.Testing.{along_back}
use Rattle.entry_search.proofs.along.Goals as goal

pub returns-then-not-directed : goal.returns-then-not-directed
returns-then-not-directed c = along_back c.args.directed (step c.args.a c.args.b) (step c.args.x c.args.y) c.same.ensures c.if-same.false c.if-not-directed.true c.same-then-not-directed.ensures
