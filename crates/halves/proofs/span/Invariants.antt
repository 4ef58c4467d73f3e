-- `halves::span` meets its contract. Assumes nothing.
use mathlib.Core.List.{List}
use Prim.Native.Nat.{ℕ, ◌+◌, ◌/◌, ◌≤◌, ◌<◌}
use lib.ListN.{get_or}
use Rattle.halves.proofs.span.Given as goal

-- the least and the greatest of the first i keys
pub record Inv (a : List ℕ) (s n low high i : ℕ) : Type 0 where
  pub at_most : i ≤ n
  pub each_low : (j : ℕ) → j < i → low ≤ get_or a (s + j) 0 / 2
  pub each_high : (j : ℕ) → j < i → get_or a (s + j) 0 / 2 ≤ high
  pub low_at : (from : ℕ) → ((j : ℕ) → j < n → from ≤ get_or a (s + j) 0 / 2) → from ≤ low
  pub high_at : (to : ℕ) → ((j : ℕ) → j < n → get_or a (s + j) 0 / 2 < to) → high < to

abbrev pub invariant-loop-i : goal.invariant-loop-i
invariant-loop-i l = Inv l.buffer l.s l.n l.low l.high l.i
