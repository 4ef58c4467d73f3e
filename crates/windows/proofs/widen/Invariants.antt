-- `windows::widen` meets its contract. The invariant: the first i entries are copied. Assumes nothing.
use Rattle.windows.proofs.Fitting.{Widened}
use Rattle.windows.proofs.widen.Given as goal

abbrev pub invariant-loop-i : goal.invariant-loop-i
invariant-loop-i l = Widened l.buffer l.s l.n l.base l.initial.to l.to l.i
