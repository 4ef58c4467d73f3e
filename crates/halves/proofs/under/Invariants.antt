-- `halves::under` counts at most what it has passed.
-- Assumes nothing.
use Prim.Native.Nat.{◌≤◌}
use Rattle.halves.proofs.under.Given as goal

abbrev pub invariant-loop-i : goal.invariant-loop-i
invariant-loop-i l = l.c ≤ l.i
