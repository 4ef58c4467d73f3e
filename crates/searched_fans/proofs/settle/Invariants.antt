-- `searched_fans::settle` meets its contract: face after face. Assumes nothing.
use Rattle.searched_fans.proofs.Settling.{Settled}
use Rattle.searched_fans.proofs.settle.Given as goal

abbrev pub invariant-loop-g : goal.invariant-loop-g
invariant-loop-g l = Settled l.faces l.initial.words l.v l.words l.bytes l.g
