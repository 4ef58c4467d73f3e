-- The loop call: what it gives back and what each of its rooms then holds, for any input. Definitions only.
use Rattle.std.specs.Prelude.{ℕ, ◌*◌, ◌/◌, List, [], ◌∷◌, length, Float}
use Rattle.rules.specs.Mesh.{points_of, faces_of}
use Rattle.rules.specs.Edges.{no7, no8, loop_vertices, loop_ends}
use Rattle.rules.specs.Refusal.{Check, decided, no1, no2, no4, no5, no6, most_points, most_faces}
use Rattle.rules.specs.Rooms.{work_room, filled, cleared, Outcome, outcome}

-- the stated rooms for P points and F faces: loop vertices 3F, loop ends 3F, work
unfoldable pub loops_rooms : ℕ → ℕ → List ℕ
loops_rooms P F = 3 * F ∷ 3 * F ∷ work_room P F ∷ []

-- the rooms lent to the loop call, in checking order
pub record LoopsRooms : Type 0 where
  pub loop_vertices : List ℕ
  pub loop_ends : List ℕ
  pub work : List ℕ

-- the refusal of the loop call: 1, 2, 4, 5, 6, 7, 8
unfoldable pub loops_check : List Float → List ℕ → LoopsRooms → Check
loops_check points faces r =
    let P = length points / 3 in
    let F = length faces / 3 in
    decided
    (no1 0 (length points) ∷ no1 1 (length faces)
    ∷ no2 0 P most_points ∷ no2 1 F most_faces
    ∷ no4 (points_of points) ∷ no5 P (faces_of faces)
    ∷ no6 (loops_rooms P F) (length r.loop_vertices ∷ length r.loop_ends ∷ length r.work ∷ [])
    ∷ no7 P (faces_of faces) ∷ no8 P (faces_of faces) ∷ [])

-- a whole loop call
unfoldable pub find_loops : List Float → List ℕ → LoopsRooms → Outcome LoopsRooms
find_loops points faces r =
    let P = length points / 3 in
    let F = length faces / 3 in
    let fs = faces_of faces in
    outcome (loops_check points faces r) r
    (length (loop_vertices P fs) ∷ length (loop_ends P fs) ∷ [])
    (record {
      loop_vertices = filled 0 (3 * F) (loop_vertices P fs) r.loop_vertices;
      loop_ends = filled 0 (3 * F) (loop_ends P fs) r.loop_ends;
      work = cleared (work_room P F) r.work;
    })
