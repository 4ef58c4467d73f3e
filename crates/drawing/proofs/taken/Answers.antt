-- `drawing::taken` meets its contract: by its case. Assumes nothing.
use Rattle.drawing.proofs.taken.Goals as goal

pub returns-then-loops : goal.returns-then-loops
returns-then-loops c = rw c.if-loops.true

pub returns : goal.returns
returns c = rw c.if-loops.false
