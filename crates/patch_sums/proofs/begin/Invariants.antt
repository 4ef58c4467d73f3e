-- `patch_sums::begin` meets its contract: the records before k are empty. Assumes nothing.
use Rattle.patch_sums.specs.Sums.{patch_of}
use Rattle.patch_sums.proofs.Empties.{Begun}
use Rattle.patch_sums.proofs.begin.Given as goal

abbrev pub invariant-loop-k : goal.invariant-loop-k
invariant-loop-k l = Begun l.initial.numbers l.count (patch_of l.empty) l.numbers l.k
