-- The repair: what it gives back and what each of its rooms then holds, for any input. Definitions only.
use Rattle.std.specs.Prelude.{ℕ, ◌+◌, ◌*◌, ◌/◌, List, [], ◌∷◌, map, length, Float}
use Rattle.rules.specs.Mesh.{points_of, faces_of, flat_points, flat_faces, zero64}
use Rattle.rules.specs.State.{report_counts}
use Rattle.rules.specs.Repair.{repaired}
use Rattle.rules.specs.Refusal.{Check, decided, no1, no2, no3_threshold, no3_options, no4, no5, no6, most_points, most_faces}
use Rattle.rules.specs.Rooms.{work_room, filled, cleared, Outcome, outcome}

-- the stated rooms for P points and F faces: points 3(P+3F), faces 3F, report, origins F, work
unfoldable pub repair_rooms : ℕ → ℕ → List ℕ
repair_rooms P F = 3 * (P + 3 * F) ∷ 3 * F ∷ report_counts ∷ F ∷ work_room P F ∷ []

-- the rooms lent to a repair, in checking order
pub record RepairRooms : Type 0 where
  pub out_points : List Float
  pub out_faces : List ℕ
  pub report : List ℕ
  pub origins : List ℕ
  pub work : List ℕ

-- the refusal of a repair: 1, 2, 3, 4, 5, 6
unfoldable pub repair_check : List Float → List ℕ → Float → ℕ → RepairRooms → Check
repair_check points faces s options r =
    let P = length points / 3 in
    let F = length faces / 3 in
    decided
    (no1 0 (length points) ∷ no1 1 (length faces)
    ∷ no2 0 P most_points ∷ no2 1 F most_faces
    ∷ no3_threshold s ∷ no3_options options
    ∷ no4 (points_of points) ∷ no5 P (faces_of faces)
    ∷ no6 (repair_rooms P F) (length r.out_points ∷ length r.out_faces ∷ length r.report ∷ length r.origins ∷ length r.work ∷ []) ∷ [])

-- a whole repair: the answer and every room
unfoldable pub repair : List Float → List ℕ → Float → ℕ → RepairRooms → Outcome RepairRooms
repair points faces s options r =
    let P = length points / 3 in
    let F = length faces / 3 in
    let m = repaired s options (points_of points) (faces_of faces) in
    outcome (repair_check points faces s options r) r
    (3 * length m.points ∷ 3 * length m.faces ∷ report_counts ∷ length m.faces ∷ [])
    (record {
      out_points = filled zero64 (3 * (P + 3 * F)) (flat_points m.points) r.out_points;
      out_faces = filled 0 (3 * F) (flat_faces m.faces) r.out_faces;
      report = filled 0 report_counts m.report r.report;
      origins = filled 0 F (map (λ f. f.origin) m.faces) r.origins;
      work = cleared (work_room P F) r.work;
    })
