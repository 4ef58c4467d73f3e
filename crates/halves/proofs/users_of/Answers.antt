-- `halves::users_of` meets its contract. Assumes nothing.
use mathlib.Core.Path.{sym}
use Rattle.halves.proofs.Weights.{users_same, users_other}
use Rattle.halves.proofs.users_of.Goals as goal

pub returns-then-v-u : goal.returns-then-v-u
returns-then-v-u c = sym (users_same c.args.v c.args.u c.args.n c.args.b c.if-v-u.true)

pub returns-else-v-u : goal.returns-else-v-u
returns-else-v-u c = sym (users_other c.args.v c.args.u c.args.n c.args.b c.if-v-u.false)
