-- `halves::split` meets its contract. The invariant: of the first i entries the m whose key is below `mid` stand first. Assumes nothing.
use mathlib.Core.Path.{◌≡◌}
use mathlib.Core.List.{List}
use Prim.Native.Nat.{ℕ, ◌+◌, ◌/◌, ◌≤◌, ◌<◌}
use lib.ListN.{get_or}
use Rattle.rows.specs.Region.{Only}
use Rattle.halves.specs.Split.{tally}
use Rattle.halves.proofs.split.Given as goal

-- of the first i entries the m below mid stand first
pub record Inv (a₀ : List ℕ) (s n mid : ℕ) (a : List ℕ) (i m : ℕ) : Type 0 where
  pub at_most : i ≤ n
  pub fewer : m ≤ i
  pub only : Only s n a₀ a
  pub low : (j : ℕ) → j < m → get_or a (s + j) 0 / 2 < mid
  pub high : (j : ℕ) → m ≤ j → j < i → mid ≤ get_or a (s + j) 0 / 2
  pub same : (x : ℕ) → tally a s n x ≡ tally a₀ s n x

abbrev pub invariant-loop-i : goal.invariant-loop-i
invariant-loop-i l = Inv l.initial.buffer l.s l.n l.mid l.buffer l.i l.m
