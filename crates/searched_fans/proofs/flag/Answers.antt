-- `searched_fans::flag` meets its contract. Assumes nothing.
use mathlib.Core.Path.{sym, ap}
use mathlib.Core.Bool.{Bool, cond}
use borrow.Author.Tests.{eq-eqb, ne_eqb}
use Rattle.searched_fans.proofs.flag.Goals as goal

pub returns-then-x-v : goal.returns-then-x-v
returns-then-x-v c = sym (ap (λ (t : Bool). cond t c.args.bit 0) (eq-eqb c.args.x c.args.v c.if-x-v.true))

pub returns-else-x-v : goal.returns-else-x-v
returns-else-x-v c = sym (ap (λ (t : Bool). cond t c.args.bit 0) (ne_eqb c.args.x c.args.v c.if-x-v.false))
