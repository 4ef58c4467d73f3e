-- `boundary::trace` meets its contract: the rows say what is so of the boundary edges along the edges before r. Assumes nothing.
use Rattle.boundary.proofs.Tracing.{Inv}
use Rattle.boundary.proofs.trace.Given as goal

abbrev pub invariant-loop-r : goal.invariant-loop-r
invariant-loop-r l = Inv l.initial.work l.faces l.count l.m l.row l.work l.r
