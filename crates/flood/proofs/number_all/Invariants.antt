-- `flood::number_all` meets its contract: a thing that is its own parent takes the next number, another one the number of its parent. Assumes nothing.
use mathlib.Core.Path.{◌≡◌}
use mathlib.Core.List.{List}
use Prim.Native.Nat.{ℕ, ◌≤◌}
use Rattle.rows.specs.Region.{Only, Holds}
use Rattle.rules.specs.Lists.{below, count}
use Rattle.rules.specs.Groups.{leads}
use Rattle.rule_laws.proofs.Leaders.{label_of}
use Rattle.flood.specs.Uniting.{NumberAsks}
use Rattle.flood.proofs.number_all.Given as goal

-- the first i things have labels in the place of parents, and c of them lead
pub record Inv {w₀ : List ℕ} {labels n : ℕ} (q : NumberAsks w₀ labels n) (w : List ℕ) (c i : ℕ) : Type 0 where
  pub at_most : i ≤ n
  pub only : Only labels i w₀ w
  pub numbered : Holds labels i (label_of q.joined n) w
  pub number : c ≡ count (leads q.joined n) (below i)

abbrev pub invariant-loop-i : goal.invariant-loop-i
invariant-loop-i l = (q : NumberAsks l.initial.work l.labels l.things) → Inv q l.work l.count l.i
