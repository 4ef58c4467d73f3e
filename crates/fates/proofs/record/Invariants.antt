-- `fates::record` meets its contract: the amounts of the places passed are added. Assumes nothing.
use Prim.Native.Nat.{◌-◌}
use Rattle.fates.specs.Adding.{by_flag}
use Rattle.fates.proofs.Sums.{Adding}
use Rattle.fates.proofs.record.Given as goal

abbrev pub invariant-loop-i : goal.invariant-loop-i
invariant-loop-i l = Adding (by_flag l.initial.work l.marks l.code) l.origins l.n l.initial.work l.fates l.work l.i
