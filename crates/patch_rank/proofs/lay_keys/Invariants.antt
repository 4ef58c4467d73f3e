-- `patch_rank::lay_keys` meets its contract: the keys before k are there. Assumes nothing.
use Rattle.patch_rank.proofs.Laying.{Laid}
use Rattle.patch_rank.proofs.lay_keys.Given as goal

abbrev pub invariant-loop-k : goal.invariant-loop-k
invariant-loop-k l = Laid l.numbers l.count l.initial.work l.work l.k
