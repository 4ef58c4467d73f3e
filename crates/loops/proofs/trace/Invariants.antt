-- `loops::trace` meets its contract: the loops that vertices below v start are listed. Assumes nothing.
use Rattle.loops.specs.Loops.{TraceAsks}
use Rattle.loops.proofs.Tracing.{Listing}
use Rattle.loops.proofs.trace.Given as goal

abbrev pub invariant-loop-v : goal.invariant-loop-v
invariant-loop-v l = (q : TraceAsks l.initial.work l.points l.next l.spare l.initial.loop_vertices l.initial.loop_ends) → Listing q l.work l.loop_vertices l.loop_ends l.found.loop_vertices l.found.loop_ends l.v
