-- `patch_sums::sum_faces` meets its contract: each record is that of the faces passed. Assumes nothing.
use Rattle.patch_sums.proofs.Summing.{Summed}
use Rattle.patch_sums.proofs.sum_faces.Given as goal

abbrev pub invariant-loop-i : goal.invariant-loop-i
invariant-loop-i l = Summed l.points l.faces l.labels l.count l.initial.numbers l.numbers l.i
