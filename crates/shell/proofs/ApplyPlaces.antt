-- The place of a refusal to apply a mending list is below 2^32: few lines can apply before the first bad one. Assumes nothing.
use mathlib.Core.Path.{◌≡◌, refl, sym}
use mathlib.Core.List.{List, [], ◌∷◌}
use Prim.Native.Nat.{ℕ, ◌/◌, ◌≤◌, ◌<◌, ◌^◌}
use native.Mathlib.Omega.{arith}
use lib.ListN.{length}
use lib.Ieee.{Float}
use Rattle.rules.specs.Mesh.{Face, face, points_of, faces_of}
use Rattle.rules.specs.Refusal.{Check, ok, no, most_points, most_faces}
use Rattle.rules.specs.Rooms.{refused}
use Rattle.rules.specs.Applying.{no15}
use Rattle.rules.specs.Calls.{apply_rooms, ApplyRooms, apply_check, apply_list}
use Rattle.rule_laws.proofs.Flat.{length_faces, length_points, numbered}
use Rattle.rule_laws.proofs.Rising.{All, all_from}
use Rattle.list_runs.proofs.Few.{bad_line_low}
use Rattle.place_laws.proofs.Places.{Near, no6_near, input_near, step, end}
use Rattle.place_laws.proofs.Outcomes.{outcome_near, refused_near}

-- the faces of a call are numbered
faces_low : (faces : List ℕ) → All (λ g. g.origin < length (faces_of faces)) (faces_of faces)
unfolding face
faces_low faces =
    all_from (λ g. g.origin < length (faces_of faces)) (record { a = 0; b = 0; c = 0; origin = 0 }) (faces_of faces) (λ i h. omega (arith, numbered faces i h))

-- 15: at most as many lines as can apply
no15_near : (points : List Float) (faces text : List ℕ) → length points / 3 ≤ most_points → length faces / 3 ≤ most_faces → Near (no15 (points_of points) (faces_of faces) text)
unfolding Near
no15_near points faces text p f = go (no15 (points_of points) (faces_of faces) text) refl
  where
    go : (c : Check) → no15 (points_of points) (faces_of faces) text ≡ c → Near c
    go ok e = tt
    go (no n k) e = omega (arith, bad_line_low (points_of points) (faces_of faces) (faces_low faces) text n k e, length_points points, length_faces faces)

-- of the call
apply_near : (points : List Float) (faces text : List ℕ) (r : ApplyRooms) → Near (apply_check points faces text r)
unfolding apply_check apply_rooms
apply_near points faces text r =
    input_near points faces _
    (λ p f. step _ _ (no15_near points faces text p f)
    (λ _. step _ _ (no6_near (apply_rooms (length points / 3) (length faces / 3)) _ (omega arith)) (λ _. end)))

-- so its place fits C's struct
pub apply_place :
    (points : List Float) (faces text : List ℕ) (r : ApplyRooms) {n p : ℕ} {rooms : ApplyRooms}
    → record { answer = refused n p; rooms = rooms } ≡ apply_list points faces text r → p < 2 ^ 32
unfolding apply_list
apply_place points faces text r e = refused_near (outcome_near (apply_check points faces text r) _ _ _ (apply_near points faces text r)) e
