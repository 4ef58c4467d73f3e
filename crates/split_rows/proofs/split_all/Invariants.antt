-- `split_rows::split_all` meets its contract. The invariant: the vertices passed are split. Assumes nothing.
use mathlib.Core.List.{List}
use Prim.Native.Nat.{ℕ, ◌+◌, ◌*◌, ◌-◌, ◌^◌, ◌≤◌, ◌<◌}
use Rattle.rows.specs.Region.{Only2}
use Rattle.split_rows.specs.Rows.{Reached, AllAsks}
use Rattle.split_rows.proofs.split_all.Given as goal

pub record Inv {w₀ : List ℕ} {P m olds : ℕ} (q : AllAsks w₀ P m olds) (w : List ℕ) (begin next v : ℕ) : Type 0 where
  pub at_most : v ≤ P
  pub only : Only2 (13 * m + 2 + P) m olds m w₀ w
  pub reached : Reached q.ys P olds v w begin next

pub record Turn (P v : ℕ) : Type 0 where
  pub few : P < 2 ^ 31
  pub here : v < P

abbrev pub invariant-loop-v : goal.invariant-loop-v
invariant-loop-v l = (q : AllAsks l.initial.work l.count l.m l.olds) → Inv q l.work l.begin l.next l.v
