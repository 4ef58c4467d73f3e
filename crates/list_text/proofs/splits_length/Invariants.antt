-- `list_text::splits_length` meets its contract: the lengths of the lines before j are summed, and the cursor is at the corners of the next new point. Assumes nothing.
use Prim.Native.Nat.{◌-◌}
use Rattle.list_text.proofs.Splits.{Totalled}
use Rattle.list_text.proofs.splits_length.Given as goal

abbrev pub invariant-loop-j : goal.invariant-loop-j
invariant-loop-j l = Totalled l.work l.origins l.rows l.total l.from l.j
