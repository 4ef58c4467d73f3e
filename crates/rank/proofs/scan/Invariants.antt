-- `rank::scan` meets its contract. The invariant: the choice is the best of the entries passed.
-- Assumes nothing.
use mathlib.Core.Path.{◌≡◌}
use mathlib.Core.List.{List}
use Prim.Native.Nat.{ℕ}
use lib.ListN.{take}
use lib.Ieee.{Float}
use Rattle.std.specs.Prelude.{Option, IfSome}
use Rattle.rank.specs.declared.Choice.{Choice}
use Rattle.rank.specs.Ranks.{faces_in, count, value_of, pick, face_or, Chosen}
use Rattle.rank.proofs.scan.Given as goal

pub record Inv (ps : List Float) (xs run : List ℕ) (b₀ b : Option Choice) (i : ℕ) : Type 0 where
  pub chosen : IfSome b (Chosen ps xs)
  pub picked : face_or (count xs) b ≡ pick (count xs) (value_of ps xs) (face_or (count xs) b₀) (faces_in (take i run))

abbrev pub invariant-loop-id : goal.invariant-loop-id
invariant-loop-id l = Inv l.points l.faces l.run l.initial.best l.best l.id-index
