-- `halves::out_of` meets its contract. Assumes nothing.
use mathlib.Core.Path.{sym}
use Rattle.halves.proofs.Weights.{out_one, out_none}
use Rattle.halves.proofs.out_of.Goals as goal

pub returns-then-users-eq1 : goal.returns-then-users-eq1
returns-then-users-eq1 c = sym (out_one c.args.users c.args.b c.if-users-eq1.true)

pub returns : goal.returns
returns c = sym (out_none c.args.users c.args.b c.if-users-eq1.false)
