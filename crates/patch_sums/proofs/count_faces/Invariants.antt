-- `patch_sums::count_faces` meets its contract: each count is that of the labels passed. Assumes nothing.
use Rattle.patch_sums.proofs.Counting.{Counted}
use Rattle.patch_sums.proofs.count_faces.Given as goal

abbrev pub invariant-loop-i : goal.invariant-loop-i
invariant-loop-i l = Counted l.labels l.initial.counts l.count l.counts l.i
