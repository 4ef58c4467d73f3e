-- `read_stl::flags` meets its contract: the flags before c are written. Assumes nothing.
use Rattle.read_stl.proofs.Flagging.{Flagging}
use Rattle.read_stl.proofs.flags.Given as goal

abbrev pub invariant-loop-c : goal.invariant-loop-c
invariant-loop-c l = Flagging l.n l.initial.work l.work l.c
