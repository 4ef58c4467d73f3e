-- `table::keys` meets its contract. The invariant: both rows hold the keys of the faces passed, and nothing else is changed.
-- Assumes nothing.
use mathlib.Core.Bool.{Bool}
use mathlib.Core.List.{List}
use Prim.Native.Nat.{ℕ, ◌*◌, ◌≤◌}
use lib.ListN.{length}
use Rattle.rows.specs.Region.{Only2, Holds}
use Rattle.rules.specs.Mesh.{faces_of}
use Rattle.table.specs.Entries.{step_at, under}
use Rattle.table.proofs.keys.Given as goal

-- the loop's invariant, after whole faces: both rows hold the keys of the first i entries
pub record Passed (w₀ xs : List ℕ) (d : Bool) (first second : ℕ) (w : List ℕ) (i : ℕ) : Type 0 where
  pub at_most : i ≤ length xs
  pub only : Only2 first (length xs) second (length xs) w₀ w
  pub firsts : Holds first i (λ id. (under d (step_at (faces_of xs) id)).from) w
  pub seconds : Holds second i (λ id. (under d (step_at (faces_of xs) id)).to) w

abbrev pub invariant-loop-f : goal.invariant-loop-f
invariant-loop-f l = Passed l.initial.work l.faces l.directed l.first l.second l.work (3 * l.f)
