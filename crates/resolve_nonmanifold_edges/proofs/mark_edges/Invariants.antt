-- `resolve_nonmanifold_edges::mark_edges` meets its contract: after r runs, what is lost at their edges is marked, and the crowded ones are counted.
-- Assumes nothing.
use Rattle.resolve_nonmanifold_edges.proofs.Crowding.{Counted}
use Rattle.resolve_nonmanifold_edges.proofs.mark_edges.Given as goal

abbrev pub invariant-loop-r : goal.invariant-loop-r
invariant-loop-r l = Counted l.points l.faces l.initial.work l.marks l.m l.work l.c l.r
