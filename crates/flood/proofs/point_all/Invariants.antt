-- `flood::point_all` meets its contract: the parent of a thing comes no later, so its root stands there already. Assumes nothing.
use mathlib.Core.List.{List}
use Prim.Native.Nat.{ℕ, ◌≤◌}
use Rattle.rows.specs.Region.{Only, Holds}
use Rattle.flood.specs.Parents.{PointAsks}
use Rattle.flood.proofs.point_all.Given as goal

-- the first i things have roots in the place of parents
pub record Inv {w₀ : List ℕ} {labels n : ℕ} (q : PointAsks w₀ labels n) (w : List ℕ) (i : ℕ) : Type 0 where
  pub at_most : i ≤ n
  pub only : Only labels i w₀ w
  pub roots : Holds labels i q.root w

abbrev pub invariant-loop-i : goal.invariant-loop-i
invariant-loop-i l = (q : PointAsks l.initial.work l.labels l.things) → Inv q l.work l.i
