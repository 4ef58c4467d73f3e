-- `wiping::wipe` meets its contract. The invariant: only the first i entries of the region are changed, and those are zero.
-- Assumes nothing.
use Rattle.wiping.proofs.Blocks.{Wiped}
use Rattle.wiping.proofs.wipe.Given as goal

abbrev pub invariant-loop-i : goal.invariant-loop-i
invariant-loop-i g l = Wiped g.T.Entry.blank g.T.Entry.zero l.initial.work l.from l.n l.work l.i
