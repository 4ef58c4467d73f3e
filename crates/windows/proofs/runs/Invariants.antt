-- `windows::runs` meets its contract. The invariant: the runs before run j are taken in. Assumes nothing.
use Rattle.windows.proofs.Running.{Ran}
use Rattle.windows.proofs.runs.Given as goal

abbrev pub invariant-loop-j : goal.invariant-loop-j
invariant-loop-j l = Ran l.points l.v l.w l.ends l.buffer l.initial.entries l.initial.r l.entries l.r l.from l.s l.j
