-- The edge call: what it gives back and what each of its rooms then holds, for any input. Definitions only.
use Rattle.std.specs.Prelude.{ℕ, ◌*◌, ◌/◌, List, [], ◌∷◌, length, Float}
use Rattle.rules.specs.Lists.{each}
use Rattle.rules.specs.Mesh.{points_of, faces_of, zero64}
use Rattle.rules.specs.Steps.{edges}
use Rattle.rules.specs.Edges.{both_ends, lengths, face_edges, no7}
use Rattle.rules.specs.Refusal.{Check, decided, no1, no2, no4, no5, no6, most_points, most_faces}
use Rattle.rules.specs.Rooms.{work_room, filled, cleared, Outcome, outcome}

-- the stated rooms for P points and F faces: edges 6F, lengths 3F, face edges 3F, work
unfoldable pub edges_rooms : ℕ → ℕ → List ℕ
edges_rooms P F = 6 * F ∷ 3 * F ∷ 3 * F ∷ work_room P F ∷ []

-- the rooms lent to the edge call, in checking order
pub record EdgesRooms : Type 0 where
  pub edges : List ℕ
  pub lengths : List Float
  pub face_edges : List ℕ
  pub work : List ℕ

-- the refusal of the edge call: 1, 2, 4, 5, 6, 7
unfoldable pub edges_check : List Float → List ℕ → EdgesRooms → Check
edges_check points faces r =
    let P = length points / 3 in
    let F = length faces / 3 in
    decided
    (no1 0 (length points) ∷ no1 1 (length faces)
    ∷ no2 0 P most_points ∷ no2 1 F most_faces
    ∷ no4 (points_of points) ∷ no5 P (faces_of faces)
    ∷ no6 (edges_rooms P F) (length r.edges ∷ length r.lengths ∷ length r.face_edges ∷ length r.work ∷ [])
    ∷ no7 P (faces_of faces) ∷ [])

-- a whole edge call
unfoldable pub find_edges : List Float → List ℕ → EdgesRooms → Outcome EdgesRooms
find_edges points faces r =
    let P = length points / 3 in
    let F = length faces / 3 in
    let ps = points_of points in
    let fs = faces_of faces in
    let E = length (edges P fs) in
    outcome (edges_check points faces r) r
    (2 * E ∷ E ∷ 3 * F ∷ [])
    (record {
      edges = filled 0 (6 * F) (each both_ends (edges P fs)) r.edges;
      lengths = filled zero64 (3 * F) (lengths ps fs) r.lengths;
      face_edges = filled 0 (3 * F) (face_edges P fs) r.face_edges;
      work = cleared (work_room P F) r.work;
    })
