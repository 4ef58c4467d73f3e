-- `rank::scan_other` meets its contract. The invariant: the choice is the best of those of the entries passed that walk otherwise.
-- Assumes nothing.
use mathlib.Core.Path.{◌≡◌}
use mathlib.Core.Bool.{Bool}
use mathlib.Core.List.{List}
use Prim.Native.Nat.{ℕ}
use lib.ListN.{take}
use lib.Ieee.{Float}
use Rattle.rules.specs.Mesh.{faces_of}
use Rattle.rules.specs.Steps.{Step, step}
use Rattle.std.specs.Prelude.{Option, IfSome}
use Rattle.rank.specs.declared.Choice.{Choice}
use Rattle.rank.specs.Ranks.{faces_in, count, value_of, pick, others, face_or, Chosen}
use Rattle.rank.proofs.scan_other.Given as goal

pub record Inv (ps : List Float) (xs run : List ℕ) (e : Step) (f : Bool) (b : Option Choice) (i : ℕ) : Type 0 where
  pub chosen : IfSome b (Chosen ps xs)
  pub picked : face_or (count xs) b ≡ pick (count xs) (value_of ps xs) (count xs) (others (faces_of xs) e f (faces_in (take i run)))

abbrev pub invariant-loop-id : goal.invariant-loop-id
invariant-loop-id l = Inv l.points l.faces l.run (step l.from l.to) l.forward l.best l.id-index
