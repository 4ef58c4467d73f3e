-- `rank::better` meets its contract. What is held against the new quality is the quality of the choice.
-- Assumes nothing.
use mathlib.Core.Path.{◌≡◌, refl, sym, ◌∙◌}
use mathlib.Core.Bool.{Bool, true, false}
use mathlib.Core.List.{List}
use Prim.Native.Nat.{ℕ}
use native.Mathlib.Omega.{arith}
use lib.Ieee.{Float}
use Rattle.std.specs.Prelude.{Option, None, Some}
use Rattle.rank.specs.declared.Choice.{Choice}
use Rattle.rank.specs.Ranks.{count, value_of, above, Chosen, BetterAsks, BetterGives}
use Rattle.rank.proofs.RankLaws.{better_none, better_some}
use Rattle.rank.proofs.better.Goals as goal

module _ {ps : List Float} {xs : List ℕ} {best : Option Choice} {j : ℕ} (p : BetterAsks ps xs best j) {q : Float} (e : q ≡ value_of ps xs j) where
  -- none so far: j is taken
  taken_first : best ≡ None → BetterGives ps xs best j (record { face = j; quality = q })
  taken_first n = record { chosen = record { here = p.here; value = e }; picked = rw n (better_none (count xs) (value_of ps xs) (count xs) j refl) }

  -- what the comparison says of both qualities, it says of the rules' values
  module _ {b : Choice} (n : best ≡ Some b) {r : Bool} (o : r ≡ above q j b.quality b.face) where
    chosen : Chosen ps xs b
    chosen = rw n at p.chosen

    compared : r ≡ above (value_of ps xs j) j (value_of ps xs b.face) b.face
    compared = o ∙ cc (e, chosen.value)

    taken : r ≡ true → BetterGives ps xs best j (record { face = j; quality = q })
    taken t = record { chosen = record { here = p.here; value = e }; picked = rw n (better_some (count xs) (value_of ps xs) b.face j (omega (arith, chosen.here)) true (sym t ∙ compared)) }

    left : r ≡ false → BetterGives ps xs best j b
    left t = record { chosen = chosen; picked = rw n (better_some (count xs) (value_of ps xs) b.face j (omega (arith, chosen.here)) false (sym t ∙ compared)) }

pub returns-in-Some : goal.returns-in-Some
returns-in-Some c = left c.requires c.quality-q.ensures c.in-Some.is c.outranks.ensures c.if-not-outranks.true

pub returns-in_default : goal.returns-in_default
returns-in_default c = taken c.requires c.quality-q.ensures c.in-Some.is c.outranks.ensures c.if-not-outranks.false

pub returns-in_default-2 : goal.returns-in_default-2
returns-in_default-2 c = taken_first c.requires c.quality-q.ensures c.in_default.is
