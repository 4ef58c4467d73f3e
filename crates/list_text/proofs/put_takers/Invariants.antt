-- `list_text::put_takers` meets its contract: the fields at the corners before q are put. Assumes nothing.
use Prim.Native.Nat.{◌-◌}
use Rattle.list_text.proofs.Takers.{Taken}
use Rattle.list_text.proofs.put_takers.Given as goal

abbrev pub invariant-loop-q : goal.invariant-loop-q
invariant-loop-q l = Taken l.work l.origins l.rows l.from l.to l.initial.text l.at l.text l.next l.last l.q
