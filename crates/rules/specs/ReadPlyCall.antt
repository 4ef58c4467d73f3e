-- The call that reads a binary PLY file: what it gives back and what each of its rooms then holds, for any bytes. Definitions only.
use Rattle.std.specs.Prelude.{ℕ, ◌*◌, List, [], ◌∷◌, length, Float}
use Rattle.rules.specs.Mesh.{flat_points, flat_faces, zero64}
use Rattle.rules.specs.Refusal.{Check, decided, no2, no4, no5, no6, most_points, most_faces}
use Rattle.rules.specs.Rooms.{work_room, filled, cleared, Outcome, outcome}
use Rattle.rules.specs.Ply.{vertices_in, faces_in_is, points_of_bytes, triples_of, no13, no14}

-- the stated rooms for P points and F faces: points 3P, faces 3F, work
unfoldable pub read_ply_rooms : ℕ → ℕ → List ℕ
read_ply_rooms P F = 3 * P ∷ 3 * F ∷ work_room P F ∷ []

-- the rooms lent to the call, in checking order
pub record ReadPlyRooms : Type 0 where
  pub points : List Float
  pub faces : List ℕ
  pub work : List ℕ

-- the refusal of the call: 13, 2, 14, 4, 5, 6
unfoldable pub read_ply_check : List ℕ → ReadPlyRooms → Check
read_ply_check file r =
    let P = vertices_in file in
    let F = faces_in_is file in
    decided
    (no13 file
    ∷ no2 0 P most_points ∷ no2 1 F most_faces
    ∷ no14 file ∷ no4 (points_of_bytes file) ∷ no5 P (triples_of file)
    ∷ no6 (read_ply_rooms P F) (length r.points ∷ length r.faces ∷ length r.work ∷ []) ∷ [])

-- a whole call
unfoldable pub read_ply : List ℕ → ReadPlyRooms → Outcome ReadPlyRooms
read_ply file r =
    let P = vertices_in file in
    let F = faces_in_is file in
    outcome (read_ply_check file r) r
    (3 * P ∷ 3 * F ∷ [])
    (record {
      points = filled zero64 (3 * P) (flat_points (points_of_bytes file)) r.points;
      faces = filled 0 (3 * F) (flat_faces (triples_of file)) r.faces;
      work = cleared (work_room P F) r.work;
    })
