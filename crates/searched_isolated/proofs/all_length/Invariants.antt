-- `searched_isolated::all_length` meets its contract: point after point. Assumes nothing.
use Rattle.searched_isolated.proofs.Lines.{Told}
use Rattle.searched_isolated.proofs.all_length.Given as goal

abbrev pub invariant-loop-v : goal.invariant-loop-v
invariant-loop-v l = Told l.points l.bytes l.v
