-- `windows::pass` meets its contract. The invariant: of the first i corners those of the window are in their runs, and those after it are counted. Assumes nothing.
use Rattle.windows.proofs.Passing.{Passed}
use Rattle.windows.proofs.pass.Given as goal

abbrev pub invariant-loop-i : goal.invariant-loop-i
invariant-loop-i l = Passed l.faces l.v l.w l.width l.initial.ends l.initial.buffer l.initial.counts l.inner l.outer l.ends l.buffer l.counts l.i
