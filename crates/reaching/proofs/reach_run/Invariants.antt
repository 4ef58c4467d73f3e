-- `reaching::reach_run` meets its contract: one face of the run a turn. Assumes nothing.
use Rattle.reaching.proofs.Running.{ReachInv}
use Rattle.reaching.proofs.reach_run.Given as goal

abbrev pub invariant-loop-k : goal.invariant-loop-k
invariant-loop-k l = ReachInv l.initial.work l.faces l.n l.from l.to l.x l.y l.work l.k
