-- The measure of the calls of `halves::walk` of itself.
use Prim.Native.Nat.{◌-◌}
use Rattle.halves.proofs.+walk.Given as goal

abbrev pub decreases-walk : goal.decreases-walk
decreases-walk l = l.to - l.from
