-- `refuse::within` meets its contract. Assumes nothing.
use Rattle.refuse.proofs.within.Goals as goal

pub returns-then-low-x : goal.returns-then-low-x
returns-then-low-x c = rw c.if-low-x.true

pub returns : goal.returns
returns c = rw c.if-low-x.false
