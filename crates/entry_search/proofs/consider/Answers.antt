-- `entry_search::consider` meets its contract: a face that stands and has a wanted entry is held against the choice. Assumes nothing.
use Rattle.rules.specs.Steps.{step}
use Rattle.entry_search.proofs.Holding.{better_ok, gone, unwanted, taken_in}
use Rattle.entry_search.proofs.consider.Goals as goal

-- src/lib.rt:242:13
pub better-requires : goal.better-requires
better-requires c = better_ok c.requires c.view-g.ensures

-- src/lib.rt:242:13
pub returns-then-admits : goal.returns-then-admits
returns-then-admits c = taken_in c.requires c.args.directed (step c.args.a c.args.b) c.args.walk c.args.but c.stands.ensures c.if-stands.true c.view-g.ensures c.admits.ensures c.if-admits.true c.better.ensures

-- src/lib.rt:224:1
pub returns-else-admits : goal.returns-else-admits
returns-else-admits c = unwanted c.requires c.args.directed (step c.args.a c.args.b) c.args.walk c.args.but c.stands.ensures c.if-stands.true c.view-g.ensures c.admits.ensures c.if-admits.false

-- src/lib.rt:224:1
pub returns-else-stands : goal.returns-else-stands
returns-else-stands c = gone c.requires c.args.directed (step c.args.a c.args.b) c.args.walk c.args.but c.stands.ensures c.if-stands.false
