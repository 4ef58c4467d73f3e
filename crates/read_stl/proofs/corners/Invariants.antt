-- `read_stl::corners` meets its contract: the corners before c are written. Assumes nothing.
use Rattle.read_stl.proofs.Standing.{Standing}
use Rattle.read_stl.proofs.corners.Given as goal

abbrev pub invariant-loop-c : goal.invariant-loop-c
invariant-loop-c l = Standing l.file l.n l.initial.points l.points l.c
