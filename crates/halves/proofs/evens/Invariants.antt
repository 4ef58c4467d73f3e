-- `halves::evens` meets its contract. Assumes nothing.
use mathlib.Core.Path.{◌≡◌}
use mathlib.Core.List.{List}
use Prim.Native.Nat.{ℕ, ◌+◌, ◌*◌, ◌/◌, ◌≤◌, ◌<◌}
use lib.ListN.{get_or}
use Rattle.halves.specs.Split.{tally}
use Rattle.halves.proofs.evens.Given as goal

-- b of the first i entries are even
pub record Inv (a : List ℕ) (s n b i : ℕ) : Type 0 where
  pub at_most : i ≤ n
  pub fewer : b ≤ i
  pub even : (k : ℕ) → ((j : ℕ) → j < i → get_or a (s + j) 0 / 2 ≡ k) → b ≡ tally a s i (2 * k)
  pub odd : (k : ℕ) → ((j : ℕ) → j < i → get_or a (s + j) 0 / 2 ≡ k) → i ≡ b + tally a s i (2 * k + 1)

abbrev pub invariant-loop-i : goal.invariant-loop-i
invariant-loop-i l = Inv l.buffer l.s l.n l.b l.i
