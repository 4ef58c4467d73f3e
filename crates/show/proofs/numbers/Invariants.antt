-- `show::numbers` reads within the row: i stays below n, which is at most its length. Assumes nothing.
use Prim.Native.Nat.{◌-◌, ◌≤◌}
use Rattle.show.proofs.numbers.Given as goal

abbrev pub invariant-loop-i : goal.invariant-loop-i
invariant-loop-i g l = l.i ≤ l.n
