-- `table::after` meets its contract. Assumes nothing.
use borrow.Author.Tests.{eq-eqb, ne_eqb}
use Prim.Native.Nat.{◌%◌}
use Rattle.table.proofs.after.Goals as goal

pub returns-then-i-eq2 : goal.returns-then-i-eq2
returns-then-i-eq2 c = rw (eq-eqb (c.args.i % 3) 2 c.if-i-eq2.true)

pub returns-else-i-eq2 : goal.returns-else-i-eq2
returns-else-i-eq2 c = rw (ne_eqb (c.args.i % 3) 2 c.if-i-eq2.false)
