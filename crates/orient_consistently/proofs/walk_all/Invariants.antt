-- `orient_consistently::walk_all` meets its contract: one start a turn. Assumes nothing.
use Rattle.orient_consistently.proofs.Beginning.{AllInv}
use Rattle.orient_consistently.proofs.walk_all.Given as goal

abbrev pub invariant-loop-i : goal.invariant-loop-i
invariant-loop-i l = AllInv l.initial.work l.faces l.n l.work l.marks l.i
