-- `loops::mirror` meets its contract: the first i entries are copied, the last first. Assumes nothing.
use Rattle.loops.proofs.Mirrored.{Copied}
use Rattle.loops.proofs.mirror.Given as goal

abbrev pub invariant-loop-i : goal.invariant-loop-i
invariant-loop-i l = Copied l.work l.spare l.n l.initial.loop_vertices l.from l.loop_vertices l.i
