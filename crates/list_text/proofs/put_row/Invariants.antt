-- `list_text::put_row` meets its contract: the lines of the entries before i are put. Assumes nothing.
use Prim.Native.Nat.{◌-◌}
use Rattle.list_text.specs.Written.{first_of, last_of, line_at}
use Rattle.list_text.proofs.Onward.{Rowed}
use Rattle.list_text.proofs.put_row.Given as goal

abbrev pub invariant-loop-i : goal.invariant-loop-i
invariant-loop-i l = Rowed (line_at l.work l.row (first_of l.section) (last_of l.section)) l.n l.initial.text l.at l.text l.next l.i
