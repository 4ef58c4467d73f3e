-- `searched_unused::holds` meets its contract. Assumes nothing.
use mathlib.Core.Path.{◌∙◌}
use Rattle.searched_unused.proofs.Using.{held, gone}
use Rattle.searched_unused.proofs.holds.Goals as goal

pub returns-then-stands : goal.returns-then-stands
returns-then-stands c = held c.args.faces.now c.args.words.now c.args.v c.args.g c.stands.ensures c.if-stands.true c.joins.ensures

pub returns-else-stands : goal.returns-else-stands
returns-else-stands c = c.if-stands.false ∙ gone c.args.faces.now c.args.words.now c.args.v c.args.g c.stands.ensures c.if-stands.false
