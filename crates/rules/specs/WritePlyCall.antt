-- The call that writes a binary PLY file: what it gives back and what each of its rooms then holds, for any input. Definitions only.
use Rattle.std.specs.Prelude.{ℕ, ◌+◌, ◌*◌, ◌/◌, List, [], ◌∷◌, length, Float}
use Rattle.rules.specs.Mesh.{points_of, faces_of}
use Rattle.rules.specs.Refusal.{Check, decided, no1, no2, no4, no5, no6, most_points, most_faces}
use Rattle.rules.specs.Rooms.{work_room, filled, cleared, Outcome, outcome}
use Rattle.rules.specs.Ply.{header, ply}

-- the stated rooms for P points and F faces: the file, as long as what is written; work
unfoldable pub write_ply_rooms : ℕ → ℕ → List ℕ
write_ply_rooms P F = (length (header P F) + 24 * P + 13 * F) ∷ work_room P F ∷ []

-- the rooms lent to the call, in checking order
pub record WritePlyRooms : Type 0 where
  pub file : List ℕ
  pub work : List ℕ

-- the refusal of the call: 1, 2, 4, 5, 6
unfoldable pub write_ply_check : List Float → List ℕ → WritePlyRooms → Check
write_ply_check points faces r =
    let P = length points / 3 in
    let F = length faces / 3 in
    decided
    (no1 0 (length points) ∷ no1 1 (length faces)
    ∷ no2 0 P most_points ∷ no2 1 F most_faces
    ∷ no4 (points_of points) ∷ no5 P (faces_of faces)
    ∷ no6 (write_ply_rooms P F) (length r.file ∷ length r.work ∷ []) ∷ [])

-- a whole call: the file fills its room, and what lies behind it is unchanged
unfoldable pub write_ply : List Float → List ℕ → WritePlyRooms → Outcome WritePlyRooms
write_ply points faces r =
    let file = ply (points_of points) (faces_of faces) in
    outcome (write_ply_check points faces r) r
    (length file ∷ [])
    (record { file = filled 0 (length file) file r.file; work = cleared (work_room (length points / 3) (length faces / 3)) r.work })
