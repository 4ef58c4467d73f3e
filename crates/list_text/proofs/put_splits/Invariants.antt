-- `list_text::put_splits` meets its contract: the lines before j are put, and the cursor is at the corners of the next new point. Assumes nothing.
use Prim.Native.Nat.{◌-◌}
use Rattle.list_text.proofs.Splits.{Placed}
use Rattle.list_text.proofs.put_splits.Given as goal

abbrev pub invariant-loop-j : goal.invariant-loop-j
invariant-loop-j l = Placed l.work l.origins l.rows l.initial.text l.at l.text l.next l.from l.j
