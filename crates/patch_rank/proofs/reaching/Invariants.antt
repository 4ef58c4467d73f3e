-- `patch_rank::reaching` meets its contract: n of the keys before k are t or more. Assumes nothing.
use Rattle.patch_rank.specs.Rank.{key_at}
use Rattle.patch_rank.proofs.Scanning.{Reached}
use Rattle.patch_rank.proofs.reaching.Given as goal

abbrev pub invariant-loop-k : goal.invariant-loop-k
invariant-loop-k l = Reached (key_at l.work) l.count l.t l.n l.k
