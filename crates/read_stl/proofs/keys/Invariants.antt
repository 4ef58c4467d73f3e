-- `read_stl::keys` meets its contract: the bits of the corners before c are written. Assumes nothing.
use Rattle.read_stl.proofs.Keying.{Keyed}
use Rattle.read_stl.proofs.keys.Given as goal

abbrev pub invariant-loop-c : goal.invariant-loop-c
invariant-loop-c l = Keyed l.file l.n l.initial.work l.work l.c
