-- `flood::own_all` meets its contract. Assumes nothing.
use mathlib.Core.List.{List}
use Prim.Native.Nat.{ℕ, ◌≤◌}
use Rattle.rows.specs.Region.{Only, Holds}
use Rattle.flood.proofs.own_all.Given as goal

-- the first i things are their own parents
pub record Inv (w₀ : List ℕ) (labels n : ℕ) (w : List ℕ) (i : ℕ) : Type 0 where
  pub at_most : i ≤ n
  pub only : Only labels i w₀ w
  pub own : Holds labels i (λ j. j) w

abbrev pub invariant-loop-i : goal.invariant-loop-i
invariant-loop-i l = Inv l.initial.work l.labels l.things l.work l.i
