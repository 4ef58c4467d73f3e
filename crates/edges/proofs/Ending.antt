-- The outcome of the edge call: a refusal that leaves every room as it was, or the rules' rooms. Assumes nothing.
use mathlib.Core.Path.{◌≡◌, sym, ap, ◌∙◌}
use mathlib.Core.Bool.{false}
use mathlib.Core.List.{List, [], ◌∷◌}
use Prim.Native.Nat.{ℕ, ◌*◌, ◌/◌}
use native.Mathlib.Omega.{arith}
use lib.ListN.{length}
use lib.Ieee.{Float}
use Rattle.rules.specs.Mesh.{faces_of}
use Rattle.rules.specs.Steps.{edges}
use Rattle.rules.specs.Refusal.{Check, ok, decided}
use Rattle.rules.specs.Rooms.{Outcome, outcome}
use Rattle.rules.specs.EdgesCall.{EdgesRooms, edges_check, find_edges}
use Rattle.std.specs.Prelude.{Ok, Err}
use Rattle.refuse.specs.Verdicts.{check_of, number_of, place_of}
use Rattle.refuse.specs.declared.Refusal.{Refusal}
use Rattle.edges_refusal.specs.Checks.{edges_list, EdgesAccepted}
use Rattle.edges_refusal.proofs.Accept.{edges_refused, edges_go_on, edges_accepted}
use Rattle.table.proofs.Theorems.{edge_count}
use Rattle.filling.proofs.Filling.{cleared_kept}
use Rattle.drawing.specs.Drawing.{judged, DrawAsks, PrepareGives}
use Rattle.edges.specs.Answers.{outcome_of, rooms_of}
use Rattle.edges.specs.Steps.{ListAsks, after}

-- the rooms with another work room
abbrev pub with_work : EdgesRooms → List ℕ → EdgesRooms
with_work r w = rooms_of r.edges r.lengths r.face_edges w

-- the rules' outcome of a check
abbrev outcome_by_check : List Float → List ℕ → EdgesRooms → Check → Outcome EdgesRooms
outcome_by_check ps xs r c =
    outcome c r
    (2 * length (edges (length ps / 3) (faces_of xs)) ∷ length (edges (length ps / 3) (faces_of xs)) ∷ 3 * (length xs / 3) ∷ [])
    (after ps xs r)

module _ (ps : List Float) (xs : List ℕ) (r : EdgesRooms) where
  -- the checks up to 6
  abbrev checks : Check
  checks = decided (edges_list ps xs (length r.edges) (length r.lengths) (length r.face_edges) (length r.work))

  -- refused by them
  pub is_refused : (e : Refusal) → check_of {A = Unit} (Err e) ≡ checks → outcome_of (Err e) r ≡ find_edges ps xs r
  unfolding find_edges outcome
  is_refused e s = ap (outcome_by_check ps xs r) (sym (edges_refused ps xs r (number_of e) (place_of e) (sym s)))

  module _ (s : ok ≡ checks) where
    -- what the call may start from
    pub is_accepted : EdgesAccepted ps xs (length r.edges) (length r.lengths) (length r.face_edges) (length r.work)
    is_accepted = edges_accepted ps xs _ _ _ _ (sym s)

    -- what the verdict asks
    pub draw_asks : DrawAsks r.work xs (length ps / 3)
    draw_asks = record { faces = is_accepted.input.faces_fine; room = is_accepted.room_work }

    -- 7 decides
    goes_on : edges_check ps xs r ≡ judged false (length ps / 3) xs
    goes_on = edges_go_on ps xs r (sym s)

    -- it refuses
    pub is_judged : {w' : List ℕ} (e : Refusal) → PrepareGives false r.work xs (length ps / 3) w' (Err e) → outcome_of (Err e) (with_work r w') ≡ find_edges ps xs r
    unfolding find_edges outcome
    is_judged e g =
        ap (λ u. outcome_of (Err e) (with_work r u)) g.prepared
        ∙ ap (outcome_by_check ps xs r) (sym (goes_on ∙ sym g.says))

    module _ {w' : List ℕ} {m : ℕ} (g : PrepareGives false r.work xs (length ps / 3) w' (Ok m)) where
      -- what the listing asks
      pub list_asks : ListAsks ps xs m (with_work r w')
      list_asks = record { accepted = rw (← g.only.long) at is_accepted; stands = g.prepared }

      -- every room is the rules'
      pub is_done : {r' : EdgesRooms} → r' ≡ after ps xs (with_work r w') → outcome_of (Ok (record { edges = 2 * m; lengths = m; face_edges = length xs })) r' ≡ find_edges ps xs r
      unfolding find_edges outcome
      is_done {r'} y =
          let c : m ≡ length (edges (length ps / 3) (faces_of xs)) = edge_count list_asks.stands.tabled in
          let k : length xs ≡ 3 * (length xs / 3) = omega (arith, is_accepted.input.faces_fine.whole) in
          (λ i. outcome_of (Ok (record { edges = 2 * c i; lengths = c i; face_edges = k i })) (y i))
          ∙ ap (λ u. outcome_of (Ok (record { edges = 2 * length (edges (length ps / 3) (faces_of xs)); lengths = length (edges (length ps / 3) (faces_of xs)); face_edges = 3 * (length xs / 3) })) (with_work (after ps xs r) u)) (cleared_kept g.only)
          ∙ ap (outcome_by_check ps xs r) (sym (goes_on ∙ sym g.says))
