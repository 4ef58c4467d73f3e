-- `patches::largest` meets its contract: the largest area of the patches passed. Assumes nothing.
use Rattle.patches.proofs.Limits.{Largest}
use Rattle.patches.proofs.largest.Given as goal

abbrev pub invariant-loop-k : goal.invariant-loop-k
invariant-loop-k l = Largest l.numbers l.count l.held l.k
