-- `drop_degenerate::flag_all` meets its contract: the flags of the faces passed are right. Assumes nothing.
use Rattle.drop_degenerate.proofs.Marking.{Marked}
use Rattle.drop_degenerate.proofs.flag_all.Given as goal

abbrev pub invariant-loop-i : goal.invariant-loop-i
invariant-loop-i l = Marked l.points l.s l.faces l.n l.initial.work l.work l.repeated l.i
