-- The verdict of 7 and 8 with the work room as it was where it refuses. Assumes nothing.
use mathlib.Core.Path.{◌≡◌, refl, sym, ◌∙◌}
use mathlib.Core.Bool.{Bool, true, false}
use mathlib.Core.List.{List}
use Prim.Native.Nat.{ℕ, ◌/◌, ◌≤◌}
use native.Mathlib.Omega.{arith}
use lib.Dec.{eqb}
use lib.ListN.{length, take}
use Rattle.rows.specs.Region.{Only, Filled}
use Rattle.rows.proofs.Regions.{only_none, only_both, only_more}
use Rattle.rules.specs.Lists.{all}
use Rattle.rules.specs.Refusal.{ok}
use Rattle.rules.specs.Rooms.{work_room}
use Rattle.std.specs.Prelude.{Result, Ok, Err}
use Rattle.std.specs.Result.{is_err}
use Rattle.refuse.specs.Verdicts.{check_of}
use Rattle.refuse.specs.declared.Refusal.{Refusal}
use Rattle.wiping.proofs.Zeros.{restored}
use Rattle.drawing.specs.Drawing.{taken, judged, SizeAsks, DrawAsks, DrawGives, PrepareGives}
use Rattle.drawing.proofs.Judging.{not_ok}

module _ {w xs : List ℕ} {P : ℕ} (a : DrawAsks w xs P) where
  -- the sizes may be multiplied
  pub size_asks : SizeAsks (length xs) P
  size_asks = record { few_corners = omega (arith, a.faces.few, a.faces.whole); few_points = a.faces.points }

  -- what is taken is a part of the stated room
  pub taken_stated : (loops : Bool) → taken loops P (length xs) ≤ work_room P (length xs / 3)
  unfolding work_room
  taken_stated true = omega (arith, a.faces.whole)
  taken_stated false = omega (arith, a.faces.whole)

  -- so it is there
  pub taken_fits : (loops : Bool) {k : ℕ} → k ≡ taken loops P (length xs) → k ≤ length w
  taken_fits loops e = omega (arith, e, taken_stated loops, a.room)

  -- nothing beyond the stated room is written where nothing beyond that is
  within : (loops : Bool) {w₁ : List ℕ} → Only 0 (taken loops P (length xs)) w w₁ → Only 0 (work_room P (length xs / 3)) w w₁
  within loops o = only_more (omega arith) (omega (arith, taken_stated loops)) o

  module _ {loops : Bool} where
    -- in a room of zeros: all stands
    pub zero_ready : {w₁ : List ℕ} (d : Result ℕ Refusal) → is_err d ≡ false → DrawGives loops w xs P w₁ d → PrepareGives loops w xs P w₁ d
    zero_ready (Ok m) e g = record { only = within loops g.only; says = g.says; prepared = g.stands }
    zero_ready (Err r) e g = absurd (cc)

    -- or the room is cleared again
    pub zero_refused :
        {w₁ w₂ : List ℕ} {k : ℕ} (d : Result ℕ Refusal) → is_err d ≡ true → k ≡ taken loops P (length xs) → all (eqb 0) (take k w) ≡ true → DrawGives loops w xs P w₁ d
        → Only 0 k w₁ w₂ → Filled 0 k 0 w₂ → PrepareGives loops w xs P w₂ d
    zero_refused (Ok m) e t z g o f = absurd (cc)
    zero_refused {w₁} {w₂} {k} (Err r) e t z g o f =
        let b : Only 0 k w w₂ = only_both (only_more (omega arith) (omega (arith, t)) g.only) o in
        record { only = only_more (omega arith) (omega (arith, t, taken_stated loops)) b; says = g.says; prepared = restored w k (taken_fits loops t) z b f }

    -- the faces alone refuse
    pub alone_refused : {e : Refusal} → check_of {A = Unit} (Err e) ≡ judged loops P xs → PrepareGives loops w xs P w (Err e)
    alone_refused s = record { only = only_none 0 (work_room P (length xs / 3)) w; says = s; prepared = refl }

    -- or do not, and then the table does not
    pub alone_fine : ok ≡ judged loops P xs → {w₁ : List ℕ} (d : Result ℕ Refusal) → DrawGives loops w xs P w₁ d → PrepareGives loops w xs P w₁ d
    alone_fine s (Ok m) g = record { only = within loops g.only; says = g.says; prepared = g.stands }
    alone_fine s (Err e) g = absurd (not_ok (g.says ∙ sym s))
