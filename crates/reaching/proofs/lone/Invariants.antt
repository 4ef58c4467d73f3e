-- `reaching::lone` meets its contract: one face of the run a turn. Assumes nothing.
use Rattle.reaching.proofs.Running.{LoneInv}
use Rattle.reaching.proofs.lone.Given as goal

abbrev pub invariant-loop-k : goal.invariant-loop-k
invariant-loop-k l = LoneInv l.work l.faces l.n l.from l.to l.x l.y l.known l.k
