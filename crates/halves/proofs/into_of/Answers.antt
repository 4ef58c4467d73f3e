-- `halves::into_of` meets its contract. Assumes nothing.
use mathlib.Core.Path.{sym}
use Rattle.halves.proofs.Weights.{into_same, into_other, into_none}
use Rattle.halves.proofs.into_of.Goals as goal

pub returns-then-v-u : goal.returns-then-v-u
returns-then-v-u c = sym (into_same c.args.v c.args.u c.args.users c.args.e c.if-users-eq1.true c.if-v-u.true)

pub returns-then-users-eq1 : goal.returns-then-users-eq1
returns-then-users-eq1 c = sym (into_other c.args.v c.args.u c.args.users c.args.e c.if-users-eq1.true c.if-v-u.false)

pub returns : goal.returns
returns c = sym (into_none c.args.v c.args.u c.args.users c.args.e c.if-users-eq1.false)
