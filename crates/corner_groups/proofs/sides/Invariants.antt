-- `corner_groups::sides` meets its contract. The invariant: both halves hold the corners of the steps passed. Assumes nothing.
use mathlib.Core.List.{List}
use Prim.Native.Nat.{ℕ, ◌+◌, ◌*◌, ◌^◌, ◌≤◌, ◌<◌}
use lib.ListN.{length, get_or}
use Rattle.rows.specs.Region.{Only, Holds}
use Rattle.corner_groups.specs.Sides.{lower_of, higher_of, SideAsks}
use Rattle.corner_groups.proofs.sides.Given as goal

pub record Inv (w₀ xs : List ℕ) (from to : ℕ) (w : List ℕ) (i : ℕ) : Type 0 where
  pub at_most : i ≤ length xs
  pub only : Only to (2 * length xs) w₀ w
  pub lows : Holds to i (λ j. lower_of xs (get_or w₀ (from + j) 0)) w
  pub highs : Holds (to + length xs) i (λ j. higher_of xs (get_or w₀ (from + j) 0)) w

pub record Turn (w xs : List ℕ) (from to i : ℕ) : Type 0 where
  pub few : length xs < 2 ^ 31
  pub from_in : from + length xs ≤ length w
  pub to_in : to + 2 * length xs ≤ length w
  pub here : i < length xs
  pub step : SideAsks xs (get_or w (from + i) 0)
  pub low : lower_of xs (get_or w (from + i) 0) < length xs
  pub high : higher_of xs (get_or w (from + i) 0) < length xs

abbrev pub invariant-loop-i : goal.invariant-loop-i
invariant-loop-i l = Inv l.initial.work l.faces l.from l.to l.work l.i
