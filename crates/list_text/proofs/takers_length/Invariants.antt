-- `list_text::takers_length` meets its contract: the lengths of the fields at the corners before q are summed. Assumes nothing.
use Prim.Native.Nat.{◌-◌}
use Rattle.list_text.proofs.Takers.{Measured}
use Rattle.list_text.proofs.takers_length.Given as goal

abbrev pub invariant-loop-q : goal.invariant-loop-q
invariant-loop-q l = Measured l.work l.origins l.rows l.from l.to l.total l.last l.q
