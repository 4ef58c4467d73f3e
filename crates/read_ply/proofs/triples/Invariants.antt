-- `read_ply::triples` meets its contract: the faces before i are written. Assumes nothing.
use Rattle.read_ply.proofs.Facing.{Standing}
use Rattle.read_ply.proofs.triples.Given as goal

abbrev pub invariant-loop-i : goal.invariant-loop-i
invariant-loop-i l = Standing l.file l.at l.f l.initial.faces l.faces l.i
