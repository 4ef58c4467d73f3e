-- `table::runs` meets its contract. The invariant: of the places passed, those where runs begin are noted, and each entry has the number of its run.
-- Assumes nothing.
use mathlib.Core.Path.{◌≡◌}
use mathlib.Core.List.{List}
use Prim.Native.Nat.{ℕ, suc, ◌+◌, ◌*◌, ◌^◌, ◌≤◌, ◌<◌}
use lib.ListN.{length, get_or}
use Rattle.rows.specs.Region.{part, Only2}
use Rattle.rules.specs.Lists.{below, filter, count}
use Rattle.table.specs.Runs.{entry, begins}
use Rattle.table.proofs.runs.Given as goal

pub record Inv (w₀ : List ℕ) (n at : ℕ) (w : List ℕ) (m i : ℕ) : Type 0 where
  pub most : i ≤ n
  pub only : Only2 (at + 2 * n) n (at + 4 * n) (n + 1) w₀ w
  pub number : m ≡ count (begins w₀ n at) (below i)
  pub starts : part w (at + 4 * n) m ≡ filter (begins w₀ n at) (below i)
  pub runs : (g : ℕ → ℕ) → ((j : ℕ) → j < i → suc (g (entry w₀ n at j)) ≡ count (begins w₀ n at) (below (suc j))) → (j : ℕ) → j < i → get_or w (at + 2 * n + entry w₀ n at j) 0 ≡ g (entry w₀ n at j)

pub record Turn (w : List ℕ) (n at m i : ℕ) : Type 0 where
  pub few : n < 2 ^ 32
  pub fit : at + 5 * n + 1 ≤ length w
  pub here : i < n
  pub some : 0 < m
  pub most : m ≤ i + 1
  pub id_in : entry w n at i < n

abbrev pub invariant-loop-i : goal.invariant-loop-i
invariant-loop-i l = Inv l.initial.work l.n l.at l.work l.m l.i
