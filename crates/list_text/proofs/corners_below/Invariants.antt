-- `list_text::corners_below` meets its contract: the corners passed are at points below v. Assumes nothing.
use mathlib.Core.List.{List}
use Prim.Native.Nat.{ℕ, ◌+◌, ◌-◌, ◌*◌, ◌≤◌, ◌<◌}
use lib.ListN.{length, get_or}
use Rattle.list_text.specs.declared.Rows.{Rows}
use Rattle.list_text.specs.Written.{start_of}
use Rattle.list_text.proofs.corners_below.Given as goal

pub record Inv (w : List ℕ) (rows : Rows) (v q : ℕ) : Type 0 where
  pub most : q ≤ start_of w rows v

pub record Turn (w : List ℕ) (rows : Rows) (q : ℕ) : Type 0 where
  pub here : q < 3 * rows.left
  pub place : rows.sorted + 3 * rows.left ≤ length w
  pub column : rows.column + 3 * rows.left ≤ length w
  pub id : get_or w (rows.sorted + q) 0 < 3 * rows.left

abbrev pub invariant-loop-q : goal.invariant-loop-q
invariant-loop-q l = Inv l.work l.rows l.v l.q
