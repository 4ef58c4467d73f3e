-- `corner_numbers::number_run` meets its contract. The invariant: the corners passed have their numbers. Assumes nothing.
use mathlib.Core.Path.{◌≡◌}
use mathlib.Core.Logic.{◌≢◌}
use mathlib.Core.Bool.{cond}
use mathlib.Core.List.{List}
use Prim.Native.Nat.{ℕ, ◌+◌, ◌^◌, ◌≤◌, ◌<◌}
use lib.ListN.{length, get_or}
use Rattle.rows.specs.Region.{Only}
use Rattle.rules.specs.Lists.{below, count}
use Rattle.corner_numbers.specs.Numbers.{extra_by}
use Rattle.corner_numbers.proofs.number_run.Given as goal

pub record Inv (w₀ : List ℕ) (run m leads numbers n v next : ℕ) (w : List ℕ) (new j : ℕ) : Type 0 where
  pub at_most : j ≤ m
  pub only : Only numbers n w₀ w
  pub free : new ≡ next + count (extra_by w₀ run leads) (below j)
  pub numbered : (k : ℕ) → k < j → get_or w (numbers + get_or w₀ (run + k) 0) 0 ≡ cond (extra_by w₀ run leads k) (next + count (extra_by w₀ run leads) (below k)) v
  pub others : (id : ℕ) → ((k : ℕ) → k < j → get_or w₀ (run + k) 0 ≢ id) → get_or w (numbers + id) 0 ≡ get_or w₀ (numbers + id) 0

pub record Turn (w : List ℕ) (run m leads numbers n v new j : ℕ) : Type 0 where
  pub here : j < m
  pub run_in : run + m ≤ length w
  pub leads_in : leads + n ≤ length w
  pub numbers_in : numbers + n ≤ length w
  pub id : get_or w (run + j) 0 < n
  pub small : new + 1 < 2 ^ 32
  pub vertex : v < 2 ^ 32

abbrev pub invariant-loop-j : goal.invariant-loop-j
invariant-loop-j l = Inv l.initial.work l.run l.m l.leads l.numbers l.n l.v l.next l.work l.new l.j
