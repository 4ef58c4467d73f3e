-- `windows::fit` meets its contract. The invariant: the first k runs fit, and s is where the next begins. Assumes nothing.
use Rattle.windows.proofs.Fitting.{Fitted}
use Rattle.windows.proofs.fit.Given as goal

abbrev pub invariant-loop-k : goal.invariant-loop-k
invariant-loop-k l = Fitted l.counts l.limit l.room l.most l.initial.ends l.ends l.s l.k
