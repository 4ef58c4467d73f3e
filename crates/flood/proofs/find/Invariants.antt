-- `flood::find` meets its contract: every root stays, and y has the root of x. The measure is y. Assumes nothing.
use mathlib.Core.Path.{◌≡◌}
use mathlib.Core.List.{List}
use Prim.Native.Nat.{ℕ, ◌≤◌}
use Rattle.rows.specs.Region.{Only}
use Rattle.flood.specs.Parents.{parent, Forest, FindAsks}
use Rattle.flood.proofs.find.Given as goal

-- y has the root of x, and p is its parent
pub record Inv {w₀ : List ℕ} {labels x : ℕ} (q : FindAsks w₀ labels x) (w : List ℕ) (y p : ℕ) : Type 0 where
  pub only : Only labels q.n w₀ w
  pub forest : Forest labels q.n q.root w
  pub low : y ≤ x
  pub here : p ≡ parent w labels y
  pub same : q.root y ≡ q.root x

abbrev pub invariant-loop-parent : goal.invariant-loop-parent
invariant-loop-parent l = (q : FindAsks l.initial.work l.labels l.x) → Inv q l.work l.y l.parent

abbrev pub decreases-loop-parent : goal.decreases-loop-parent
decreases-loop-parent l = l.y
