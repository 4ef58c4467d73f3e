-- `wiping::is_zero` meets its contract: each entry before i is 0. Assumes nothing.
use Rattle.wiping.proofs.Blocks.{Wiped}
use Rattle.wiping.proofs.is_zero.Given as goal

abbrev pub invariant-loop-i : goal.invariant-loop-i
invariant-loop-i l = Wiped 0 0 l.work 0 l.n l.work l.i
