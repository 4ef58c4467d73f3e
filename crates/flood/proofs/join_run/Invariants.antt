-- `flood::join_run` meets its contract: each turn joins two neighbours of the run. Assumes nothing.
use mathlib.Core.Path.{◌≡◌}
use mathlib.Core.List.{List}
use Prim.Native.Nat.{ℕ, ◌+◌, ◌-◌, ◌≤◌, ◌<◌}
use lib.ListN.{get_or}
use Rattle.rows.specs.Region.{Only}
use Rattle.flood.specs.Parents.{Forest}
use Rattle.flood.specs.Uniting.{Within, Finer, RunAsks}
use Rattle.flood.proofs.join_run.Given as goal

-- the things of the run up to place i have one root
pub record Inv {w₀ : List ℕ} {labels order from to : ℕ} (q : RunAsks w₀ labels order from to) (w : List ℕ) (i : ℕ) : Type 0 where
  pub at_least : from ≤ i
  pub at_most : i ≤ to
  pub only : Only labels q.n w₀ w
  pub new : ℕ → ℕ
  pub forest : Forest labels q.n new w
  pub within : Within q.joined q.n new
  pub finer : Finer q.root new
  pub same : (p : ℕ) → p < i → from ≤ p → new (get_or w₀ (order + p) 0) ≡ new (get_or w₀ (order + (p + 1)) 0)

abbrev pub invariant-loop-i : goal.invariant-loop-i
invariant-loop-i l = (q : RunAsks l.initial.work l.labels l.order l.from l.to) → Inv q l.work (l.i - 1)
