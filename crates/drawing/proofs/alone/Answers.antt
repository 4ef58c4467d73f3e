-- `drawing::alone` meets its contract: 8 is a refusal for loops alone. Assumes nothing.
use Rattle.drawing.proofs.Judging.{alone_none, alone_eight, alone_seven}
use Rattle.drawing.proofs.alone.Goals as goal

pub returns-then-loops : goal.returns-then-loops
returns-then-loops c = rw c.if-loops.true c.loop_verdict-found.ensures

pub returns-in_default : goal.returns-in_default
returns-in_default c = rw c.if-loops.false (alone_none _ _ c.in_default.ensures)

pub returns-in-BadBoundary : goal.returns-in-BadBoundary
returns-in-BadBoundary c = rw c.if-loops.false (alone_eight _ _ (rw c.in-BadBoundary.is at c.in-Err.ensures))

pub returns-in_default-refusal : goal.returns-in_default-refusal
returns-in_default-refusal c = rw c.if-loops.false (alone_seven _ _ c.in-Err.ensures c.in_default-refusal.not-BadBoundary)
