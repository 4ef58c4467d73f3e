-- The list call, from its outcome to what C is given: the parts of its work room are those of one room or they are not, and its place is below 2^32. Assumes
-- nothing.
use Rattle.std.specs.Prelude.{Ok, Err}
use mathlib.Core.Path.{◌≡◌}
use mathlib.Core.Logic.{◌⊎◌, inl, inr, ⊎_elim}
use mathlib.Core.List.{List, [], ◌∷◌}
use Prim.Native.Nat.{ℕ, ◌+◌, ◌*◌, ◌/◌, ◌<◌, ◌^◌, min}
use native.Mathlib.Omega.{arith}
use native.Mathlib.Decide.{ℕ_discrete}
use lib.ListN.{length}
use lib.Ieee.{Float}
use Rattle.rules.specs.Mesh.{points_of, faces_of}
use Rattle.rules.specs.Refusal.{no1, no2, no3_threshold, no3_options, no4, most_points, most_faces}
use Rattle.rules.specs.Rooms.{refused}
use Rattle.rules.specs.Mending.{list_text}
use Rattle.rules.specs.ListCall.{list_rooms, ListRooms, list_check, write_list}
use Rattle.rule_laws.proofs.Flat.{length_points}
use Rattle.refuse.specs.declared.Refusal.{Refusal}
use Rattle.refuse.specs.Verdicts.{number_of, place_of}
use Rattle.refuse.proofs.Singles.{no2_fine}
use Rattle.list_refusal.specs.Checks.{Parted}
use Rattle.write_list.specs.Called.{ListGives}
use Rattle.shell.specs.Listed.{ListTold}
use Rattle.place_laws.proofs.Places.{Near, unless_near, at_first_near, no5_near, no6_near, step, end}
use Rattle.place_laws.proofs.Outcomes.{outcome_near, refused_near}
use Rattle.shell.proofs.Outcomes.{given_accepted, given_refused}

-- the parts are those of one room or they are not
pub parted_or : (F corners origins rest : ℕ) → Parted F corners origins rest ⊎ (Parted F corners origins rest → ⊥)
parted_or F corners origins rest = go (ℕ_discrete corners (min (3 * F) (corners + origins + rest))) (ℕ_discrete origins (min F (origins + rest)))
  where
    go : Dec (corners ≡ min (3 * F) (corners + origins + rest)) → Dec (origins ≡ min F (origins + rest)) → Parted F corners origins rest ⊎ (Parted F corners origins rest → ⊥)
    go (yes a) (yes b) = inl (record { first = a; second = b })
    go (yes a) (no b) = inr (λ p. b p.second)
    go (no a) d = inr (λ p. a p.first)

-- of the call: 2 comes before 4 and 5, so P and F are not too large
list_near : (points : List Float) (faces : List ℕ) (s : Float) (options : ℕ) (r : ListRooms) → Near (list_check points faces s options r)
unfolding list_check list_rooms no1 no2 no3_threshold no3_options no4
list_near points faces s options r =
    let P = length points / 3 in
    let F = length faces / 3 in
    step _ _ (unless_near 1 0 _ (omega arith))
    (λ _. step _ _ (unless_near 1 1 _ (omega arith))
    (λ _. step _ _ (unless_near 2 0 _ (omega arith))
    (λ p. step _ _ (unless_near 2 1 _ (omega arith))
    (λ f. step _ _ (unless_near 3 0 _ (omega arith))
    (λ _. step _ _ (unless_near 3 1 _ (omega arith))
    (λ _. step _ _ (at_first_near 4 _ (points_of points) (omega (arith, no2_fine 0 P most_points p, length_points points)))
    (λ _. step _ _ (no5_near P faces (no2_fine 1 F most_faces f))
    (λ _. step _ _ (no6_near (list_rooms (list_text s options (points_of points) (faces_of faces)) P F) _ (omega arith))
    (λ _. end)))))))))

-- so its place fits C's struct
list_place :
    (points : List Float) (faces : List ℕ) (s : Float) (options : ℕ) (r : ListRooms) {n p : ℕ} {rooms : ListRooms}
    → record { answer = refused n p; rooms = rooms } ≡ write_list points faces s options r → p < 2 ^ 32
unfolding write_list
list_place points faces s options r e = refused_near (outcome_near (list_check points faces s options r) _ _ _ (list_near points faces s options r)) e

module _ {points : List Float} {faces : List ℕ} {s : Float} {options : ℕ} {text corners origins rest text' corners' origins' rest' : List ℕ} where
  -- however the parts lie
  pub listed_place : {e : Refusal} → ListGives points faces s options text corners origins rest text' corners' origins' rest' (Err e) → place_of e < 2 ^ 32
  listed_place g =
      ⊎_elim (λ q. list_place points faces s options _ (g.parted q)) (λ q. list_place points faces s options _ (g.apart q))
      (parted_or (length faces / 3) (length corners) (length origins) (length rest))

  -- accepted: 0 and 0, and the bytes
  pub told_accepted :
      {n : ℕ} → ListGives points faces s options text corners origins rest text' corners' origins' rest' (Ok n)
      → ListTold points faces s options text corners origins rest text' corners' origins' rest' 0 0 n
  told_accepted g = record { parted = λ q. given_accepted (g.parted q); apart = λ q. given_accepted (g.apart q); apart_kept = g.apart_kept }

  -- refused: the number and the place, and no bytes
  pub told_refused :
      {e : Refusal} → ListGives points faces s options text corners origins rest text' corners' origins' rest' (Err e)
      → ListTold points faces s options text corners origins rest text' corners' origins' rest' (number_of e) (place_of e) 0
  told_refused g = record { parted = λ q. given_refused 1 (g.parted q); apart = λ q. given_refused 1 (g.apart q); apart_kept = g.apart_kept }
