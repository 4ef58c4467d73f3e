-- `halves::cut` meets its contract. How well it parts the entries is measured and not proved. Assumes nothing.
use Prim.Native.Nat.{◌-◌, ◌≤◌, ◌<◌}
use Rattle.halves.proofs.cut.Given as goal

abbrev pub invariant-loop-h : goal.invariant-loop-h
invariant-loop-h l = (l.from ≤ l.l) × (l.l < l.h) × (l.h ≤ l.to)

abbrev pub decreases-loop-h : goal.decreases-loop-h
decreases-loop-h l = l.h - l.l
