-- `corner_groups::shift` meets its contract. The invariant: only the first i entries of the destination are changed. Assumes nothing.
use mathlib.Core.List.{List}
use Prim.Native.Nat.{ℕ, ◌+◌, ◌^◌, ◌≤◌, ◌<◌}
use lib.ListN.{length, get_or}
use Rattle.rows.specs.Region.{Only, Holds}
use Rattle.corner_groups.proofs.shift.Given as goal

pub record Inv (w₀ : List ℕ) (from n by to : ℕ) (w : List ℕ) (i : ℕ) : Type 0 where
  pub at_most : i ≤ n
  pub only : Only to i w₀ w
  pub shifted : Holds to i (λ j. by + get_or w₀ (from + j) 0) w

pub record Turn (w : List ℕ) (from n by to i : ℕ) : Type 0 where
  pub from_in : from + n ≤ length w
  pub to_in : to + n ≤ length w
  pub here : i < n
  pub small : by + get_or w (from + i) 0 < 2 ^ 32

abbrev pub invariant-loop-i : goal.invariant-loop-i
invariant-loop-i l = Inv l.initial.work l.from l.n l.by l.to l.work l.i
