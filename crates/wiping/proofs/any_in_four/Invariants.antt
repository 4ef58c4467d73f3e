-- `wiping::any_in_four` meets its contract. The invariant: x, y, z and u have the bits of the first i entries of each quarter.
-- Assumes nothing.
use Rattle.wiping.proofs.Blocks.{Four}
use Rattle.wiping.proofs.any_in_four.Given as goal

abbrev pub invariant-loop-i : goal.invariant-loop-i
invariant-loop-i g l = let set = g.T.Marked.set in Four g.T.Entry.blank g.T.Entry.zero l.work l.from l.n (set l.x) (set l.y) (set l.z) (set l.u) l.i
