-- `searched_isolated::kept_length` meets its contract: face after face. Assumes nothing.
use Rattle.searched_isolated.proofs.Lines.{Kept}
use Rattle.searched_isolated.proofs.kept_length.Given as goal

abbrev pub invariant-loop-f : goal.invariant-loop-f
invariant-loop-f l = Kept l.faces l.words l.bytes l.f
