-- `wiping::any_in_line` meets its contract. The invariant: x has the bits of the first i entries of the region.
-- Assumes nothing.
use Prim.Native.Nat.{◌≤◌}
use Rattle.wiping.specs.Blocks.{AnyGives}
use Rattle.wiping.proofs.any_in_line.Given as goal

abbrev pub invariant-loop-i : goal.invariant-loop-i
invariant-loop-i g l = (l.i ≤ l.n) × AnyGives g.T.Entry.blank g.T.Entry.zero l.work l.from l.i (g.T.Marked.set l.x)
