-- `fates::record_degenerate` meets its contract: the amounts of the places passed are added. Assumes nothing.
use Prim.Native.Nat.{◌-◌}
use Rattle.fates.specs.Adding.{by_shape}
use Rattle.fates.proofs.Sums.{Adding}
use Rattle.fates.proofs.record_degenerate.Given as goal

abbrev pub invariant-loop-i : goal.invariant-loop-i
invariant-loop-i l = Adding (by_shape l.faces l.initial.work l.marks) l.origins l.n l.initial.work l.fates l.work l.i
