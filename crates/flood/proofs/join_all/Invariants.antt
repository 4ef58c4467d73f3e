-- `flood::join_all` meets its contract: each turn joins the things of one run. Assumes nothing.
use mathlib.Core.Path.{◌≡◌}
use mathlib.Core.List.{List}
use Prim.Native.Nat.{ℕ, ◌+◌, ◌≤◌, ◌<◌}
use Rattle.rows.specs.Region.{Only}
use Rattle.flood.specs.Plan.{plan, begins, thing, joins}
use Rattle.flood.specs.Parents.{Forest}
use Rattle.flood.specs.Uniting.{Within, AllAsks}
use Rattle.flood.proofs.join_all.Given as goal

-- neighbours in the runs before r have one root
pub record Inv {w₀ : List ℕ} {runs starts order labels : ℕ} (q : AllAsks w₀ runs starts order labels) (w : List ℕ) (r : ℕ) : Type 0 where
  pub at_most : r ≤ runs
  pub only : Only labels q.things w₀ w
  pub root : ℕ → ℕ
  pub forest : Forest labels q.things root w
  pub within : Within (joins w₀ (plan q.things runs starts order labels)) q.things root
  pub same : (s : ℕ) → s < r → (p : ℕ) → begins w₀ (plan q.things runs starts order labels) s ≤ p → p + 1 < begins w₀ (plan q.things runs starts order labels) (s + 1)
      → root (thing w₀ (plan q.things runs starts order labels) p) ≡ root (thing w₀ (plan q.things runs starts order labels) (p + 1))

abbrev pub invariant-loop-r : goal.invariant-loop-r
invariant-loop-r l = (q : AllAsks l.initial.work l.runs l.starts l.order l.labels) → Inv q l.work l.r
