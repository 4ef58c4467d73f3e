-- The calls: of two answers whose statement names one outcome of the rules, the answers are one, and every room is the same list. Assumes nothing.
use Rattle.std.specs.Prelude.{Result, Ok, Err}
use mathlib.Core.Path.{◌≡◌, refl, sym, ap, ◌∙◌}
use mathlib.Core.Bool.{Bool, true, false}
use mathlib.Core.List.{List, [], ◌∷◌}
use Prim.Native.Nat.{ℕ}
use lib.ListN.{get_or}
use lib.Dec.{eqb}
use lib.Ieee.{Float}
use Rattle.rules.specs.Rooms.{Answer, accepted, refused, Outcome}
use Rattle.rules.specs.Calls.{RepairRooms, EdgesRooms, LoopsRooms, PatchesRooms, StlRooms, ReadPlyRooms, WritePlyRooms, ApplyRooms, ListRooms, PanelRooms}
use Rattle.refuse.specs.declared.Refusal.{Refusal}
use Rattle.refuse.proofs.Refusals.{refusal_of, refusal_is}
use Rattle.repair.specs.declared.Repaired.{Repaired}
use Rattle.repair.specs.Answers as repair
use Rattle.edges.specs.declared.Found.{Found}
use Rattle.edges.specs.Answers as edges
use Rattle.loops.specs.declared.Loops.{Loops}
use Rattle.boundary_loops.specs.Answers as loops
use Rattle.edge_check.specs.Answers as check
use Rattle.patches.specs.declared.Patched.{Patched}
use Rattle.patches.specs.Answers as patches
use Rattle.line.specs.Put as line
use Rattle.read_stl.specs.declared.Read.{Read}
use Rattle.read_stl.specs.Answers as stl
use Rattle.read_ply.specs.declared.Read.{Read as ReadPly}
use Rattle.read_ply.specs.Answers as ply
use Rattle.write_ply.specs.Written as written
use Rattle.ply_counts.specs.declared.Counted.{Counted}
use Rattle.ply_counts.specs.Answers as counts
use Rattle.repair_panel.specs.declared.Packed.{Packed}
use Rattle.repair_panel.specs.Answers as pack
use Rattle.apply_list.specs.declared.Applied.{Applied}
use Rattle.apply_list.specs.Answers as apply
use Rattle.write_list.specs.Called as list

-- ---- repair

-- what a repair gave back, from the rules' answer
abbrev repaired_of : Answer → Result Repaired Refusal
repaired_of (accepted ns) = Ok (record { points = get_or ns 0 0; faces = get_or ns 1 0; origins = get_or ns 3 0 })
repaired_of (refused n p) = Err (refusal_of n p)

-- nothing of it is lost
repaired_is : (r : Result Repaired Refusal) → repaired_of (repair.answer_of r) ≡ r
repaired_is (Ok r) = refl
repaired_is (Err e) = ap Err (refusal_is e)

-- a repair has one answer, and leaves one list in each room
pub one_repair :
    {o : Outcome RepairRooms} {r r' : Result Repaired Refusal} {points points' : List Float} {faces faces' report report' origins origins' work work' : List ℕ}
    → repair.outcome_of r points faces report origins work ≡ o → repair.outcome_of r' points' faces' report' origins' work' ≡ o
    → (r ≡ r') × (points ≡ points') × (faces ≡ faces') × (report ≡ report') × (origins ≡ origins') × (work ≡ work')
one_repair {o} {r} {r'} p q =
    let e = p ∙ sym q in (
      sym (repaired_is r) ∙ ap (λ t. repaired_of t.answer) e ∙ repaired_is r',
      ap (λ t. t.rooms.out_points) e,
      ap (λ t. t.rooms.out_faces) e,
      ap (λ t. t.rooms.report) e,
      ap (λ t. t.rooms.origins) e,
      ap (λ t. t.rooms.work) e,
    )

-- ---- edges

-- what the edge call gave back, from the rules' answer
abbrev found_of : Answer → Result Found Refusal
found_of (accepted ns) = Ok (record { edges = get_or ns 0 0; lengths = get_or ns 1 0; face_edges = get_or ns 2 0 })
found_of (refused n p) = Err (refusal_of n p)

-- nothing of it is lost
found_is : (r : Result Found Refusal) → found_of (edges.answer_of r) ≡ r
found_is (Ok r) = refl
found_is (Err e) = ap Err (refusal_is e)

-- the edge call has one answer, and leaves one list in each room
pub one_edges : {o : Outcome EdgesRooms} {r r' : Result Found Refusal} {rooms rooms' : EdgesRooms} → edges.outcome_of r rooms ≡ o → edges.outcome_of r' rooms' ≡ o → (r ≡ r') × (rooms ≡ rooms')
one_edges {o} {r} {r'} p q =
    let e = p ∙ sym q in (sym (found_is r) ∙ ap (λ t. found_of t.answer) e ∙ found_is r', ap (λ t. t.rooms) e)

-- ---- loops

-- what the loop call gave back, from the rules' answer
abbrev looped_of : Answer → Result Loops Refusal
looped_of (accepted ns) = Ok (record { loop_vertices = get_or ns 0 0; loop_ends = get_or ns 1 0 })
looped_of (refused n p) = Err (refusal_of n p)

-- nothing of it is lost
looped_is : (r : Result Loops Refusal) → looped_of (loops.answer_of r) ≡ r
looped_is (Ok r) = refl
looped_is (Err e) = ap Err (refusal_is e)

-- the loop call has one answer, and leaves one list in each room
pub one_loops : {o : Outcome LoopsRooms} {r r' : Result Loops Refusal} {rooms rooms' : LoopsRooms} → loops.outcome_of r rooms ≡ o → loops.outcome_of r' rooms' ≡ o → (r ≡ r') × (rooms ≡ rooms')
one_loops {o} {r} {r'} p q =
    let e = p ∙ sym q in (sym (looped_is r) ∙ ap (λ t. looped_of t.answer) e ∙ looped_is r', ap (λ t. t.rooms) e)

-- ---- edge check

-- what the edge check gave back, from the rules' answer
abbrev checked_of : Answer → Result Bool Refusal
checked_of (accepted ns) = Ok (eqb (get_or ns 0 0) 1)
checked_of (refused n p) = Err (refusal_of n p)

-- nothing of it is lost
checked_is : (r : Result Bool Refusal) → checked_of (check.answer_of r) ≡ r
checked_is (Ok true) = refl
checked_is (Ok false) = refl
checked_is (Err e) = ap Err (refusal_is e)

-- the edge check has one answer, and leaves one list in its room
pub one_check : {o : Outcome (List ℕ)} {r r' : Result Bool Refusal} {work work' : List ℕ} → check.outcome_of r work ≡ o → check.outcome_of r' work' ≡ o → (r ≡ r') × (work ≡ work')
one_check {o} {r} {r'} p q =
    let e = p ∙ sym q in (sym (checked_is r) ∙ ap (λ t. checked_of t.answer) e ∙ checked_is r', ap (λ t. t.rooms) e)

-- ---- patches

-- what the patch call gave back, from the rules' answer
abbrev patched_of : Answer → Result Patched Refusal
patched_of (accepted ns) = Ok (record { face_counts = get_or ns 0 0; numbers = get_or ns 1 0; flags = get_or ns 2 0 })
patched_of (refused n p) = Err (refusal_of n p)

-- nothing of it is lost
patched_is : (r : Result Patched Refusal) → patched_of (patches.answer_of r) ≡ r
patched_is (Ok r) = refl
patched_is (Err e) = ap Err (refusal_is e)

-- the patch call has one answer, and leaves one list in each room
pub one_patches : {o : Outcome PatchesRooms} {r r' : Result Patched Refusal} {rooms rooms' : PatchesRooms} → patches.outcome_of r rooms ≡ o → patches.outcome_of r' rooms' ≡ o → (r ≡ r') × (rooms ≡ rooms')
one_patches {o} {r} {r'} p q =
    let e = p ∙ sym q in (sym (patched_is r) ∙ ap (λ t. patched_of t.answer) e ∙ patched_is r', ap (λ t. t.rooms) e)

-- ---- report line

-- what the report line gave back, from the rules' answer
abbrev lined_of : Answer → Result ℕ Refusal
lined_of (accepted ns) = Ok (get_or ns 0 0)
lined_of (refused n p) = Err (refusal_of n p)

-- nothing of it is lost
lined_is : (r : Result ℕ Refusal) (room : List ℕ) → lined_of (line.outcome_of r room).answer ≡ r
lined_is (Ok n) room = refl
lined_is (Err e) room = ap Err (refusal_is e)

-- the room stands beside it
lined_room : (r : Result ℕ Refusal) (room : List ℕ) → (line.outcome_of r room).rooms ≡ room
lined_room (Ok n) room = refl
lined_room (Err e) room = refl

-- the report line has one answer, and leaves one list in its room
pub one_line : {o : Outcome (List ℕ)} {r r' : Result ℕ Refusal} {room room' : List ℕ} → line.outcome_of r room ≡ o → line.outcome_of r' room' ≡ o → (r ≡ r') × (room ≡ room')
one_line {o} {r} {r'} {room} {room'} p q =
    let e = p ∙ sym q in (
      sym (lined_is r room) ∙ ap (λ t. lined_of t.answer) e ∙ lined_is r' room',
      sym (lined_room r room) ∙ ap (λ t. t.rooms) e ∙ lined_room r' room',
    )

-- ---- reading an STL file

-- what reading gave back, from the rules' answer
abbrev read_of : Answer → Result Read Refusal
read_of (accepted ns) = Ok (record { points = get_or ns 0 0; faces = get_or ns 1 0 })
read_of (refused n p) = Err (refusal_of n p)

-- nothing of it is lost
read_is : (r : Result Read Refusal) → read_of (stl.answer_of r) ≡ r
read_is (Ok r) = refl
read_is (Err e) = ap Err (refusal_is e)

-- reading has one answer, and leaves one list in each room
pub one_read :
    {o : Outcome StlRooms} {r r' : Result Read Refusal} {points points' : List Float} {faces faces' work work' : List ℕ} → stl.outcome_of r points faces work ≡ o
    → stl.outcome_of r' points' faces' work' ≡ o → (r ≡ r') × (points ≡ points') × (faces ≡ faces') × (work ≡ work')
one_read {o} {r} {r'} p q =
    let e = p ∙ sym q in (
      sym (read_is r) ∙ ap (λ t. read_of t.answer) e ∙ read_is r',
      ap (λ t. t.rooms.points) e,
      ap (λ t. t.rooms.faces) e,
      ap (λ t. t.rooms.work) e,
    )

-- ---- reading a PLY file

-- what reading gave back, from the rules' answer
abbrev ply_read_of : Answer → Result ReadPly Refusal
ply_read_of (accepted ns) = Ok (record { points = get_or ns 0 0; faces = get_or ns 1 0 })
ply_read_of (refused n p) = Err (refusal_of n p)

-- nothing of it is lost
ply_read_is : (r : Result ReadPly Refusal) → ply_read_of (ply.answer_of r) ≡ r
ply_read_is (Ok r) = refl
ply_read_is (Err e) = ap Err (refusal_is e)

-- reading has one answer, and leaves one list in each room
pub one_read_ply :
    {o : Outcome ReadPlyRooms} {r r' : Result ReadPly Refusal} {points points' : List Float} {faces faces' work work' : List ℕ} → ply.outcome_of r points faces work ≡ o
    → ply.outcome_of r' points' faces' work' ≡ o → (r ≡ r') × (points ≡ points') × (faces ≡ faces') × (work ≡ work')
one_read_ply {o} {r} {r'} p q =
    let e = p ∙ sym q in (
      sym (ply_read_is r) ∙ ap (λ t. ply_read_of t.answer) e ∙ ply_read_is r',
      ap (λ t. t.rooms.points) e,
      ap (λ t. t.rooms.faces) e,
      ap (λ t. t.rooms.work) e,
    )

-- ---- writing a PLY file

-- what writing gave back, from the rules' answer
abbrev wrote_of : Answer → Result ℕ Refusal
wrote_of (accepted ns) = Ok (get_or ns 0 0)
wrote_of (refused n p) = Err (refusal_of n p)

-- nothing of it is lost
wrote_is : (r : Result ℕ Refusal) → wrote_of (written.answer_of r) ≡ r
wrote_is (Ok n) = refl
wrote_is (Err e) = ap Err (refusal_is e)

-- writing has one answer, and leaves one list in each room
pub one_write_ply :
    {o : Outcome WritePlyRooms} {r r' : Result ℕ Refusal} {file file' work work' : List ℕ} → written.outcome_of r file work ≡ o → written.outcome_of r' file' work' ≡ o
    → (r ≡ r') × (file ≡ file') × (work ≡ work')
one_write_ply {o} {r} {r'} p q =
    let e = p ∙ sym q in (sym (wrote_is r) ∙ ap (λ t. wrote_of t.answer) e ∙ wrote_is r', ap (λ t. t.rooms.file) e, ap (λ t. t.rooms.work) e)

-- ---- the counts of a PLY file

-- what was told, from the rules' answer
abbrev counted_of : Answer → Result Counted Refusal
counted_of (accepted ns) = Ok (record { points = get_or ns 0 0; faces = get_or ns 1 0 })
counted_of (refused n p) = Err (refusal_of n p)

-- nothing of it is lost
counted_is : (r : Result Counted Refusal) → counted_of (counts.answer_of r) ≡ r
counted_is (Ok r) = refl
counted_is (Err e) = ap Err (refusal_is e)

-- the call has one answer
pub one_count : {o : Outcome (Unit {0})} {r r' : Result Counted Refusal} → counts.outcome_of r ≡ o → counts.outcome_of r' ≡ o → r ≡ r'
one_count {o} {r} {r'} p q = sym (counted_is r) ∙ ap (λ t. counted_of t.answer) (p ∙ sym q) ∙ counted_is r'

-- ---- many meshes

-- what the call gave back, from the rules' answer
abbrev packed_of : Answer → Result Packed Refusal
packed_of (accepted ns) = Ok (record { points = get_or ns 0 0; faces = get_or ns 1 0; counts = get_or ns 2 0; origins = get_or ns 3 0; meshes = get_or ns 4 0 })
packed_of (refused n p) = Err (refusal_of n p)

-- nothing of it is lost
packed_is : (r : Result Packed Refusal) → packed_of (pack.answer_of r) ≡ r
packed_is (Ok r) = refl
packed_is (Err e) = ap Err (refusal_is e)

-- the call has one answer, and leaves one list in each room
pub one_pack :
    {o : Outcome PanelRooms} {r r' : Result Packed Refusal} {points points' : List Float} {faces faces' report report' origins origins' meshes meshes' work work' : List ℕ}
    → pack.outcome_of r points faces report origins meshes work ≡ o → pack.outcome_of r' points' faces' report' origins' meshes' work' ≡ o
    → (r ≡ r') × (points ≡ points') × (faces ≡ faces') × (report ≡ report') × (origins ≡ origins') × (meshes ≡ meshes') × (work ≡ work')
one_pack {o} {r} {r'} p q =
    let e = p ∙ sym q in (
      sym (packed_is r) ∙ ap (λ t. packed_of t.answer) e ∙ packed_is r',
      ap (λ t. t.rooms.out_points) e,
      ap (λ t. t.rooms.out_faces) e,
      ap (λ t. t.rooms.report) e,
      ap (λ t. t.rooms.origins) e,
      ap (λ t. t.rooms.meshes) e,
      ap (λ t. t.rooms.work) e,
    )

-- ---- a mending list applied

-- what applying it gave back, from the rules' answer
abbrev applied_of : Answer → Result Applied Refusal
applied_of (accepted ns) = Ok (record { points = get_or ns 0 0; faces = get_or ns 1 0 })
applied_of (refused n p) = Err (refusal_of n p)

-- nothing of it is lost
applied_is : (r : Result Applied Refusal) → applied_of (apply.answer_of r) ≡ r
applied_is (Ok r) = refl
applied_is (Err e) = ap Err (refusal_is e)

-- applying a list has one answer, and leaves one list in each room
pub one_apply :
    {o : Outcome ApplyRooms} {r r' : Result Applied Refusal} {points points' : List Float} {faces faces' work work' : List ℕ} → apply.outcome_of r points faces work ≡ o
    → apply.outcome_of r' points' faces' work' ≡ o → (r ≡ r') × (points ≡ points') × (faces ≡ faces') × (work ≡ work')
one_apply {o} {r} {r'} p q =
    let e = p ∙ sym q in (
      sym (applied_is r) ∙ ap (λ t. applied_of t.answer) e ∙ applied_is r',
      ap (λ t. t.rooms.out_points) e,
      ap (λ t. t.rooms.out_faces) e,
      ap (λ t. t.rooms.work) e,
    )

-- ---- a mending list written

-- what writing it gave back, from the rules' answer
abbrev listed_of : Answer → Result ℕ Refusal
listed_of (accepted ns) = Ok (get_or ns 0 0)
listed_of (refused n p) = Err (refusal_of n p)

-- nothing of it is lost
listed_is : (r : Result ℕ Refusal) → listed_of (list.answer_of r) ≡ r
listed_is (Ok n) = refl
listed_is (Err e) = ap Err (refusal_is e)

-- writing a list has one answer, and leaves one list in each room
pub one_list :
    {o : Outcome ListRooms} {r r' : Result ℕ Refusal} {text text' work work' : List ℕ} → list.outcome_of r text work ≡ o → list.outcome_of r' text' work' ≡ o
    → (r ≡ r') × (text ≡ text') × (work ≡ work')
one_list {o} {r} {r'} p q =
    let e = p ∙ sym q in (sym (listed_is r) ∙ ap (λ t. listed_of t.answer) e ∙ listed_is r', ap (λ t. t.rooms.text) e, ap (λ t. t.rooms.work) e)
