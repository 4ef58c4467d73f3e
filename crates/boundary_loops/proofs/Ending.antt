-- The outcome of the loop call: a refusal that leaves every room as it was, or the rules' rooms. Assumes nothing.
use mathlib.Core.Path.{◌≡◌, sym, ap, ◌∙◌}
use mathlib.Core.Bool.{true}
use mathlib.Core.List.{List, [], ◌∷◌}
use Prim.Native.Nat.{ℕ, ◌/◌}
use native.Mathlib.Omega.{arith}
use lib.ListN.{length}
use lib.Ieee.{Float}
use Rattle.rules.specs.Mesh.{faces_of}
use Rattle.rules.specs.Refusal.{Check, ok, decided}
use Rattle.rules.specs.Rooms.{Outcome, outcome}
use Rattle.rules.specs.Edges as rule
use Rattle.rules.specs.LoopsCall.{LoopsRooms, loops_check, find_loops}
use Rattle.rule_laws.proofs.Decided.{decided_all}
use Rattle.std.specs.Prelude.{Ok, Err}
use Rattle.refuse.specs.Verdicts.{check_of, number_of, place_of}
use Rattle.refuse.specs.declared.Refusal.{Refusal}
use Rattle.loops.specs.declared.Loops.{Loops}
use Rattle.loops_refusal.specs.Checks.{loops_list, LoopsAccepted}
use Rattle.loops_refusal.proofs.Accept.{loops_refused, loops_go_on, loops_accepted}
use Rattle.filling.proofs.Filling.{cleared_kept}
use Rattle.drawing.specs.Drawing.{judged, DrawAsks, PrepareGives}
use Rattle.boundary_loops.specs.Answers.{outcome_of, rooms_of}
use Rattle.boundary_loops.specs.Steps.{ListAsks, ListGives, after}

-- the rooms with another work room
abbrev pub with_work : LoopsRooms → List ℕ → LoopsRooms
with_work r w = rooms_of r.loop_vertices r.loop_ends w

-- the rules' outcome of a check
abbrev outcome_by_check : List Float → List ℕ → LoopsRooms → Check → Outcome LoopsRooms
outcome_by_check ps xs r c =
    outcome c r (length (rule.loop_vertices (length ps / 3) (faces_of xs)) ∷ length (rule.loop_ends (length ps / 3) (faces_of xs)) ∷ []) (after (length ps / 3) xs r)

module _ (ps : List Float) (xs : List ℕ) (r : LoopsRooms) where
  -- the checks up to 6
  abbrev checks : Check
  checks = decided (loops_list ps xs (length r.loop_vertices) (length r.loop_ends) (length r.work))

  -- refused by them
  pub is_refused : (e : Refusal) → check_of {A = Unit} (Err e) ≡ checks → outcome_of (Err e) r ≡ find_loops ps xs r
  unfolding find_loops outcome
  is_refused e s = ap (outcome_by_check ps xs r) (sym (loops_refused ps xs r (number_of e) (place_of e) (sym s)))

  module _ (s : ok ≡ checks) where
    -- what the call may start from
    is_accepted : LoopsAccepted ps xs (length r.loop_vertices) (length r.loop_ends) (length r.work)
    is_accepted = loops_accepted ps xs _ _ _ (sym s)

    -- what the verdict asks
    pub draw_asks : DrawAsks r.work xs (length ps / 3)
    draw_asks = record { faces = is_accepted.input.faces_fine; room = is_accepted.room_work }

    -- 7 and 8 decide
    goes_on : loops_check ps xs r ≡ judged true (length ps / 3) xs
    goes_on = loops_go_on ps xs r (sym s)

    -- they refuse
    pub is_judged : {w' : List ℕ} (e : Refusal) → PrepareGives true r.work xs (length ps / 3) w' (Err e) → outcome_of (Err e) (with_work r w') ≡ find_loops ps xs r
    unfolding find_loops outcome
    is_judged e g =
        ap (λ u. outcome_of (Err e) (with_work r u)) g.prepared
        ∙ ap (outcome_by_check ps xs r) (sym (goes_on ∙ sym g.says))

    module _ {w' : List ℕ} {m : ℕ} (g : PrepareGives true r.work xs (length ps / 3) w' (Ok m)) where
      -- what the listing asks
      pub list_asks : ListAsks (length ps / 3) xs (with_work r w')
      list_asks =
          let l = g.only.long in
          record {
            faces = is_accepted.input.faces_fine;
            room_loop_vertices = is_accepted.room_loop_vertices;
            room_loop_ends = is_accepted.room_loop_ends;
            room_work = omega (arith, is_accepted.room_work);
            simple = (decided_all _ (sym g.says)).1.0;
            m = m;
            stands = g.prepared;
          }

      -- every room is the rules'
      pub is_done : {r' : LoopsRooms} {found : Loops} → ListGives (length ps / 3) xs (with_work r w') r' found.loop_vertices found.loop_ends → outcome_of (Ok found) r' ≡ find_loops ps xs r
      unfolding find_loops outcome
      is_done y =
          (λ i. outcome_of (Ok (record { loop_vertices = y.vertices_is i; loop_ends = y.ends_is i })) (y.rooms i))
          ∙ ap (λ u. outcome_of (Ok (record { loop_vertices = length (rule.loop_vertices (length ps / 3) (faces_of xs)); loop_ends = length (rule.loop_ends (length ps / 3) (faces_of xs)) })) (with_work (after (length ps / 3) xs r) u)) (cleared_kept g.only)
          ∙ ap (outcome_by_check ps xs r) (sym (goes_on ∙ sym g.says))
