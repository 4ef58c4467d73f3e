-- `read_stl::triples` meets its contract: the numbers before c are written. Assumes nothing.
use Rattle.read_stl.proofs.Numbering.{Numbering}
use Rattle.read_stl.proofs.triples.Given as goal

abbrev pub invariant-loop-c : goal.invariant-loop-c
invariant-loop-c l = Numbering l.work l.n l.initial.faces l.faces l.c
