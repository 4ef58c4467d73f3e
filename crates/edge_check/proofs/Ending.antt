-- The outcome of the edge check: a refusal that leaves the work room as it was, or an answer and a cleared work room. Assumes nothing.
use mathlib.Core.Path.{◌≡◌, sym, ap, ap₂, ◌∙◌}
use mathlib.Core.Bool.{Bool, cond}
use mathlib.Core.List.{List, [], ◌∷◌}
use Prim.Native.Nat.{ℕ, ◌+◌, ◌*◌, ◌/◌, ◌≤◌}
use native.Mathlib.Omega.{arith}
use lib.ListN.{length}
use Rattle.rows.specs.Region.{Only, Filled}
use Rattle.rows.proofs.Regions.{only_both}
use Rattle.rules.specs.Mesh.{faces_of}
use Rattle.rules.specs.Refusal.{ok, no, decided}
use Rattle.rules.specs.Rooms.{work_room, cleared, outcome}
use Rattle.rules.specs.Edges as rule
use Rattle.rules.specs.CheckCall.{check}
use Rattle.filling.proofs.Filling.{cleared_is}
use Rattle.std.specs.Prelude.{Ok, Err}
use Rattle.refuse.specs.Verdicts.{number_of, place_of}
use Rattle.refuse.specs.declared.Refusal.{Refusal}
use Rattle.edge_check_refusal.specs.Checks.{check_list, CheckAccepted}
use Rattle.edge_check_refusal.proofs.Accept.{check_is, check_accepted}
use Rattle.edge_check.specs.Answers.{outcome_of, SoundGives}

-- the stated work room
abbrev pub stated : ℕ → List ℕ → ℕ
stated P xs = 16 * P + 64 * (length xs / 3) + 64

module _ (P : ℕ) (xs w : List ℕ) where
  -- a refusal changes no buffer
  pub is_refused : (r : Refusal) → no (number_of r) (place_of r) ≡ decided (check_list P xs (length w)) → outcome_of (Err r) w ≡ check P xs w
  unfolding check outcome
  is_refused r e =
      ap (λ c. outcome c w (cond (rule.sound (faces_of xs)) 1 0 ∷ []) (cleared (work_room P (length xs / 3)) w)) (e ∙ check_is P xs w)

  module _ (e : ok ≡ decided (check_list P xs (length w))) where
    -- what an accepted call may start from
    pub is_accepted : CheckAccepted P xs (length w)
    is_accepted = check_accepted P xs (length w) (sym e)

    module _ {answer : Bool} {w' : List ℕ} (g : SoundGives P xs w w' answer) where
      -- the work room is as long as stated
      pub still_fits : stated P xs ≤ length w'
      unfolding work_room
      still_fits = omega (arith, is_accepted.room_work, g.only.long)

      -- the answer, and the work room all zero
      pub is_done : {w'' : List ℕ} → Only 0 (stated P xs) w' w'' → Filled 0 (stated P xs) 0 w'' → outcome_of (Ok answer) w'' ≡ check P xs w
      unfolding check outcome work_room
      is_done o z =
          ap₂ (λ b u. outcome_of (Ok b) u) g.says (cleared_is is_accepted.room_work (only_both g.only o) z)
          ∙ ap (λ c. outcome c w (cond (rule.sound (faces_of xs)) 1 0 ∷ []) (cleared (work_room P (length xs / 3)) w)) (e ∙ check_is P xs w)
