-- `corner_numbers::run_end` meets its contract. The invariant: the corners passed are at v. Assumes nothing.
use mathlib.Core.Path.{◌≡◌}
use mathlib.Core.List.{List}
use Prim.Native.Nat.{ℕ, ◌+◌, ◌≤◌, ◌<◌}
use lib.ListN.{length, get_or}
use Rattle.corner_numbers.proofs.run_end.Given as goal

pub record Inv (w : List ℕ) (sorted begin n v p : ℕ) : Type 0 where
  pub least : begin ≤ p
  pub most : p ≤ n
  pub inside : (q : ℕ) → begin ≤ q → q < p → get_or w (get_or w (sorted + q) 0) 0 ≡ v

pub record Turn (w : List ℕ) (sorted n p : ℕ) : Type 0 where
  pub here : p < n
  pub fit : sorted + n ≤ length w
  pub column : n ≤ length w
  pub id : get_or w (sorted + p) 0 < n

abbrev pub invariant-loop-p : goal.invariant-loop-p
invariant-loop-p l = Inv l.work l.sorted l.begin l.n l.v l.p
