-- `patch_rank::mark` meets its contract: the flags before k, and the place of the next patch at the cut. Assumes nothing.
use Rattle.patch_rank.proofs.Scanning.{Marked}
use Rattle.patch_rank.proofs.mark.Given as goal

abbrev pub invariant-loop-k : goal.invariant-loop-k
invariant-loop-k l = Marked l.work l.count l.t l.n l.initial.flags l.flags l.place l.k
