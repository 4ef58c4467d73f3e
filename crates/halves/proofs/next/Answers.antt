-- `halves::next` meets its contract. Assumes nothing.
use mathlib.Core.Path.{sym}
use Rattle.halves.proofs.Halves.{next_last, next_more}
use Rattle.halves.proofs.next.Goals as goal

pub returns-then-i-eq2 : goal.returns-then-i-eq2
returns-then-i-eq2 c = sym (next_last c.args.i c.if-i-eq2.true)

pub returns : goal.returns
returns c = sym (next_more c.args.i c.if-i-eq2.false)
