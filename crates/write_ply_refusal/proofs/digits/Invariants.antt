-- `write_ply_refusal::digits` meets its contract: k digits less one, and those of m, are all. Assumes nothing.
use Rattle.write_ply_refusal.proofs.Counting.{Count}
use Rattle.write_ply_refusal.proofs.digits.Given as goal

abbrev pub invariant-loop-m : goal.invariant-loop-m
invariant-loop-m l = Count l.n l.m l.k

abbrev pub decreases-loop-m : goal.decreases-loop-m
decreases-loop-m l = l.m
