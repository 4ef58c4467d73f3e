-- `single_use::single` meets its contract: no run before r is at odds. Assumes nothing.
use Rattle.single_use.proofs.Scanning.{Passed}
use Rattle.single_use.proofs.single.Given as goal

abbrev pub invariant-loop-r : goal.invariant-loop-r
invariant-loop-r l = Passed l.work l.faces l.states l.at l.r
