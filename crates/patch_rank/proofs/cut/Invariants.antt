-- `patch_rank::cut` meets its contract: the cut is between low and high. Assumes nothing.
use Prim.Native.Nat.{◌-◌}
use Rattle.patch_rank.specs.Rank.{key_at}
use Rattle.patch_rank.proofs.Scanning.{Halving}
use Rattle.patch_rank.proofs.cut.Given as goal

abbrev pub invariant-loop-high : goal.invariant-loop-high
invariant-loop-high l = Halving (key_at l.work) l.count l.n l.low l.high

abbrev pub decreases-loop-high : goal.decreases-loop-high
decreases-loop-high l = l.high - l.low
