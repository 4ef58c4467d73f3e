-- `list_text::row_length` meets its contract: the lengths of the lines of the entries before i are summed. Assumes nothing.
use mathlib.Core.List.{List}
use Prim.Native.Nat.{ℕ, ◌-◌, ◌*◌, ◌≤◌}
use Rattle.list_text.specs.Written.{first_of, last_of, line_at}
use Rattle.list_text.proofs.Onward.{Summed}
use Rattle.list_text.proofs.row_length.Given as goal

pub record Inv (w : List ℕ) (row n first last total i : ℕ) : Type 0 where
  pub summed : Summed (line_at w row first last) n total i
  pub small : total ≤ 25 * i

abbrev pub invariant-loop-i : goal.invariant-loop-i
invariant-loop-i l = Inv l.work l.row l.n (first_of l.section) (last_of l.section) l.total l.i
