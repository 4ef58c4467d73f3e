-- The call that applies a mending list: what it gives back and what each of its rooms then holds, for any input and any text. Definitions only.
use Rattle.std.specs.Prelude.{ℕ, ◌+◌, ◌*◌, ◌/◌, List, [], ◌∷◌, length, Float}
use Rattle.rules.specs.Mesh.{points_of, faces_of, flat_points, flat_faces, zero64}
use Rattle.rules.specs.Refusal.{Check, decided, no1, no2, no4, no5, no6, most_points, most_faces}
use Rattle.rules.specs.Rooms.{work_room, filled, cleared, Outcome, outcome}
use Rattle.rules.specs.Applying.{no15, applied}

-- the stated rooms for P points and F faces: points 3(P+3F), faces 3F, work
unfoldable pub apply_rooms : ℕ → ℕ → List ℕ
apply_rooms P F = 3 * (P + 3 * F) ∷ 3 * F ∷ work_room P F ∷ []

-- the rooms lent to the call, in checking order
pub record ApplyRooms : Type 0 where
  pub out_points : List Float
  pub out_faces : List ℕ
  pub work : List ℕ

-- the refusal of the call: 1, 2, 4, 5, 15, 6
unfoldable pub apply_check : List Float → List ℕ → List ℕ → ApplyRooms → Check
apply_check points faces text r =
    let P = length points / 3 in
    let F = length faces / 3 in
    decided
    (no1 0 (length points) ∷ no1 1 (length faces)
    ∷ no2 0 P most_points ∷ no2 1 F most_faces
    ∷ no4 (points_of points) ∷ no5 P (faces_of faces)
    ∷ no15 (points_of points) (faces_of faces) text
    ∷ no6 (apply_rooms P F) (length r.out_points ∷ length r.out_faces ∷ length r.work ∷ []) ∷ [])

-- a whole call
unfoldable pub apply_list : List Float → List ℕ → List ℕ → ApplyRooms → Outcome ApplyRooms
apply_list points faces text r =
    let P = length points / 3 in
    let F = length faces / 3 in
    let m = applied (points_of points) (faces_of faces) text in
    outcome (apply_check points faces text r) r
    (3 * length m.points ∷ 3 * length m.faces ∷ [])
    (record {
      out_points = filled zero64 (3 * (P + 3 * F)) (flat_points m.points) r.out_points;
      out_faces = filled 0 (3 * F) (flat_faces m.faces) r.out_faces;
      work = cleared (work_room P F) r.work;
    })
