-- `rank::same` meets its contract. Assumes nothing.
use borrow.Author.Tests.{eq-eqb, ne_eqb}
use Rattle.rules.specs.Steps.{same}
use Rattle.rank.proofs.same.Goals as goal

pub returns-then-x-a : goal.returns-then-x-a
unfolding same
returns-then-x-a c = rw (eq-eqb c.args.x c.args.a c.if-x-a.true)

pub returns-else-x-a : goal.returns-else-x-a
unfolding same
returns-else-x-a c = rw (ne_eqb c.args.x c.args.a c.if-x-a.false)
