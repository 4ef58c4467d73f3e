-- `split_bowtie_vertices::split_all` meets its contract. The invariant: the vertices passed are split, and counted. Assumes nothing.
use mathlib.Core.Path.{◌≡◌}
use mathlib.Core.List.{List}
use Prim.Native.Nat.{ℕ, ◌+◌, ◌*◌, ◌^◌, ◌≤◌, ◌<◌}
use lib.Dec.{ltb}
use lib.Ieee.{Float, nan}
use Rattle.rows.specs.Region.{OnlyOf, Only}
use Rattle.rules.specs.Lists.{below, count}
use Rattle.rules.specs.Mesh.{faces_of}
use Rattle.splitting.specs.Corners.{extras}
use Rattle.split_bowtie_vertices.specs.Splits.{Reached, AllAsks}
use Rattle.split_bowtie_vertices.proofs.split_all.Given as goal

pub record Inv {ps₀ : List Float} {w₀ : List ℕ} {P n : ℕ} (q : AllAsks ps₀ w₀ P n) (ps : List Float) (w : List ℕ) (begin next splits v : ℕ) : Type 0 where
  pub at_most : v ≤ P
  pub only_work : Only (13 * n + 2 + P) n w₀ w
  pub only_points : OnlyOf nan (3 * P) (3 * n) ps₀ ps
  pub counted : splits ≡ count (λ u. ltb 0 (extras (faces_of q.ys) u)) (below v)
  pub reached : Reached q.ys P ps₀ v ps w begin next

pub record Turn (P v splits : ℕ) : Type 0 where
  pub few : P < 2 ^ 31
  pub here : v < P
  pub counted : splits ≤ v

abbrev pub invariant-loop-v : goal.invariant-loop-v
invariant-loop-v l = (q : AllAsks l.initial.points l.initial.work l.count l.n) → Inv q l.points l.work l.begin l.next l.splits l.v
