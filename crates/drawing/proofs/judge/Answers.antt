-- `drawing::judge` meets its contract: by 7 and 8, or by 7 alone. Assumes nothing.
use Rattle.drawing.proofs.Judging.{by_seven, by_both}
use Rattle.drawing.proofs.judge.Goals as goal

pub returns-then-loops : goal.returns-then-loops
returns-then-loops c = rw c.if-loops.true (by_both c.requires c.boundary.ensures)

pub returns : goal.returns
returns c = rw c.if-loops.false (by_seven c.requires c.crowd.ensures)
