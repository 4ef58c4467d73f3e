-- `halves::lower` meets its contract. Assumes nothing.
use mathlib.Core.Path.{sym}
use borrow.Author.Tests.{le-leb, lt-leb}
use Rattle.halves.proofs.Weights.{one_true, one_false}
use Rattle.halves.proofs.lower.Goals as goal

pub returns-then-v-u : goal.returns-then-v-u
returns-then-v-u c = rw (le-leb c.args.v c.args.u c.if-v-u.true) (sym one_true)

pub returns : goal.returns
returns c = rw (lt-leb c.args.v c.args.u c.if-v-u.false) (sym one_false)
