-- Request 9: many meshes in one call, packed one after another, with rows of their point and face counts and one set of settings. Definitions only.
use Rattle.std.specs.Prelude.{ℕ, ◌+◌, ◌*◌, ◌/◌, max, List, [], ◌∷◌, eqb, Float, length, get_or, take, drop, replicate}
use Rattle.rules.specs.Lists.{each}
use Rattle.rules.specs.Mesh.{zero64}
use Rattle.rules.specs.State.{report_counts}
use Rattle.rules.specs.Refusal.{Check, decided, unless, no2, no3_threshold, no3_options, no6}
use Rattle.rules.specs.Rooms.{work_room, filled, cleared, Answer, accepted, refused, Outcome, outcome}
use Rattle.rules.specs.RepairCall.{RepairRooms, repair}

-- meshes at most
abbrev pub most_meshes : ℕ
most_meshes = 256

-- all counts of a row together
unfoldable pub total : List ℕ → ℕ
total [] = 0
total (n ∷ ns) = n + total ns

-- ---- each mesh by itself

-- rooms of zeros exactly as long as a repair of P points and F faces states
unfoldable pub own_rooms : ℕ → ℕ → RepairRooms
own_rooms P F =
    record {
      out_points = replicate (3 * (P + 3 * F)) zero64;
      out_faces = replicate (3 * F) 0;
      report = replicate report_counts 0;
      origins = replicate F 0;
      work = replicate (work_room P F) 0;
    }

-- the repair of one mesh in such rooms
unfoldable pub one_call : Float → ℕ → List Float → List ℕ → Outcome RepairRooms
one_call s options points faces = repair points faces s options (own_rooms (length points / 3) (length faces / 3))

-- the repairs of all meshes: each takes its points and faces, three numbers each, off the front
unfoldable pub own_calls : Float → ℕ → List ℕ → List ℕ → List Float → List ℕ → List (Outcome RepairRooms)
own_calls s options [] fs points faces = []
own_calls s options (p ∷ ps) [] points faces = []
own_calls s options (p ∷ ps) (f ∷ fs) points faces =
    one_call s options (take (3 * p) points) (take (3 * f) faces) ∷ own_calls s options ps fs (drop (3 * p) points) (drop (3 * f) faces)

-- ---- what it contributes

-- the first entries of a room, as many as entry k of the answer says; a refused mesh contributes none
unfoldable pub shared : {A : Type 0} → ℕ → Answer → List A → List A
shared k (accepted entries) room = take (get_or entries k 0) room
shared k (refused n p) room = []

-- its points, its faces, the counts of its report and its origins, as the repair's answer has them
unfoldable pub its_points : Outcome RepairRooms → List Float
its_points o = shared 0 o.answer o.rooms.out_points

unfoldable pub its_faces : Outcome RepairRooms → List ℕ
its_faces o = shared 1 o.answer o.rooms.out_faces

unfoldable pub its_counts : Outcome RepairRooms → List ℕ
its_counts o = shared 2 o.answer o.rooms.report

unfoldable pub its_origins : Outcome RepairRooms → List ℕ
its_origins o = shared 3 o.answer o.rooms.origins

-- its four entries: number (0 if accepted), place, points, faces
unfoldable pub four : Answer → List ℕ
four (accepted entries) = 0 ∷ 0 ∷ get_or entries 0 0 / 3 ∷ get_or entries 1 0 / 3 ∷ []
four (refused n p) = n ∷ p ∷ 0 ∷ 0 ∷ []

-- ---- the whole call

-- the work room of the largest mesh, which is the one whose work room is largest; of no mesh, 0
unfoldable pub largest : List ℕ → List ℕ → ℕ
largest [] fs = 0
largest (p ∷ ps) [] = 0
largest (p ∷ ps) (f ∷ fs) = max (work_room p f) (largest ps fs)

-- the stated rooms, over all meshes of the rows, refused ones too: points, faces, reports, origins, four entries a mesh, work
unfoldable pub panel_rooms : List ℕ → List ℕ → List ℕ
panel_rooms ps fs =
    3 * (total ps + 3 * total fs) ∷ 3 * total fs ∷ report_counts * length ps ∷ total fs ∷ 4 * length ps ∷ largest ps fs ∷ []

-- the rooms lent to the call, in checking order
pub record PanelRooms : Type 0 where
  pub out_points : List Float
  pub out_faces : List ℕ
  pub report : List ℕ
  pub origins : List ℕ
  pub meshes : List ℕ
  pub work : List ℕ

-- 1: the rows differ in length
unfoldable pub no1_rows : List ℕ → List ℕ → Check
no1_rows ps fs = unless 1 0 (eqb (length ps) (length fs))

-- 1: the counts, times 3, do not add up to the length, at place p
unfoldable pub no1_total : ℕ → List ℕ → ℕ → Check
no1_total p counts length = unless 1 p (eqb (3 * total counts) length)

-- the refusal of the whole call: 1, 2, 3, 6. No mesh is looked at
unfoldable pub panel_check : List Float → List ℕ → List ℕ → List ℕ → Float → ℕ → PanelRooms → Check
panel_check points faces ps fs s options r =
    decided
    (no1_rows ps fs ∷ no1_total 0 ps (length points) ∷ no1_total 1 fs (length faces)
    ∷ no2 0 (length ps) most_meshes
    ∷ no3_threshold s ∷ no3_options options
    ∷ no6 (panel_rooms ps fs)
    (length r.out_points ∷ length r.out_faces ∷ length r.report ∷ length r.origins ∷ length r.meshes ∷ length r.work ∷ []) ∷ [])

-- a whole call: what the meshes contribute, packed in order
unfoldable pub repair_panel : List Float → List ℕ → List ℕ → List ℕ → Float → ℕ → PanelRooms → Outcome PanelRooms
repair_panel points faces ps fs s options r =
    let os = own_calls s options ps fs points faces in
    let all_points = each its_points os in
    let all_faces = each its_faces os in
    let all_counts = each its_counts os in
    let all_origins = each its_origins os in
    let fours = each (λ o. four o.answer) os in
    outcome (panel_check points faces ps fs s options r) r
    (length all_points ∷ length all_faces ∷ length all_counts ∷ length all_origins ∷ length fours ∷ [])
    (record {
      out_points = filled zero64 (3 * (total ps + 3 * total fs)) all_points r.out_points;
      out_faces = filled 0 (3 * total fs) all_faces r.out_faces;
      report = filled 0 (report_counts * length ps) all_counts r.report;
      origins = filled 0 (total fs) all_origins r.origins;
      meshes = filled 0 (4 * length ps) fours r.meshes;
      work = cleared (largest ps fs) r.work;
    })
