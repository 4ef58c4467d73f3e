-- `line::put_parts` meets its contract: after k labels the line of their numbers stands in front. Assumes nothing.
use Rattle.line.proofs.Whole.{Kept}
use Rattle.line.proofs.put_parts.Given as goal

abbrev pub invariant-loop-k : goal.invariant-loop-k
invariant-loop-k l = Kept l.counts l.initial.line l.line l.at l.k
