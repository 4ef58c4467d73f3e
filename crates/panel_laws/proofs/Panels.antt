-- Request 9 in the words of the call: a mesh's number is 0, 2, 4 or 5; each mesh, cut out of the rooms by the meshes room alone, is what its own repair gives;
-- demand 3 of each accepted mesh. Assumes nothing.
use mathlib.Core.Path.{◌≡◌, sym, ap, ◌∙◌, subst}
use mathlib.Core.Logic.{◌↔◌}
use mathlib.Core.List.{List, [], ◌∷◌}
use Prim.Native.Nat.{ℕ, ◌+◌, ◌*◌, ◌/◌, ◌<◌}
use native.Mathlib.Omega.{arith}
use lib.Ieee.{Float}
use lib.ListN.{length, get_or}
use Rattle.rules.specs.Refusal.{ok}
use Rattle.rules.specs.Rooms.{cleared, accepted, Outcome}
use Rattle.rules.specs.RepairCall.{RepairRooms, repair}
use Rattle.rules.specs.State.{report_counts}
use Rattle.rules.specs.PanelCall.{total, own_rooms, one_call, own_calls, largest, four, PanelRooms, panel_check, repair_panel}
use Rattle.rule_laws.proofs.Called.{outcome_is}
use Rattle.panel_laws.specs.Cutting.{mesh_part, accepted_at, points_at, faces_at, before, points_part, faces_part, counts_part, origins_part}
use Rattle.panel_laws.proofs.Alone.{LongEnough, own_long, same_answer, same_points, same_faces, same_counts, same_origins}
use Rattle.panel_laws.proofs.Packing.{length_own_calls, own_call_at}
use Rattle.panel_laws.proofs.Telling.{Ended, repair_ended, Told, ended_told, zero_accepted, Own, repair_own}
use Rattle.panel_laws.proofs.Taken.{taken, rooms-after, rooms_are, points_of_bytes, faces_of}
use Rattle.panel_laws.proofs.Packs.{ItsCall, number_at, cut_out, lengths_told}
use Rattle.panel_laws.proofs.Mesh3.{Mesh3, mesh3_same, repair_mesh3}

-- a repair in the mesh's own rooms ends as any repair does
one_ended : (s : Float) (options : ℕ) (points : List Float) (faces : List ℕ) → Ended (one_call s options points faces)
unfolding one_call
one_ended s options points faces = repair_ended points faces s options (own_rooms (length points / 3) (length faces / 3))

-- what each mesh's four entries tell
meshes_told :
    (s : Float) (options : ℕ) (ps fs : List ℕ) (points : List Float) (faces : List ℕ) (d : Outcome RepairRooms) → length ps ≡ length fs
    → (j : ℕ) → j < length (own_calls s options ps fs points faces) → Told (get_or (own_calls s options ps fs points faces) j d)
meshes_told s options ps fs points faces d e j h =
    subst Told (sym (own_call_at s options ps fs points faces j d e (omega (arith, length_own_calls s options ps fs points faces e))))
    (ended_told _ (one_ended s options (mesh_part ps points j) (mesh_part fs faces j)))

module _
    (points : List Float) (faces ps fs : List ℕ) (s : Float) (options : ℕ) (r : PanelRooms) (e : panel_check points faces ps fs s options r ≡ ok)
    (k : ℕ) (h : k < length ps)
  where
    -- ---- the numbers

    -- the number of a mesh that is refused by itself is 2, 4 or 5, that of any other 0
    pub never_1_3_6 : (d : Outcome RepairRooms) → Own (get_or (four (get_or (own_calls s options ps fs points faces) k d).answer) 0 0)
    unfolding one_call
    never_1_3_6 d =
        let t = taken points faces ps fs s options r e in
        let a = points_of_bytes t k h in
        let b = faces_of t k h in
        subst (λ (o : Outcome RepairRooms). Own (get_or (four o.answer) 0 0)) (sym (own_call_at s options ps fs points faces k d t.rows h))
        (repair_own (mesh_part ps points k) (mesh_part fs faces k) s options _ (omega arith) (omega arith) t.threshold_fine t.options_fine (own_long _ _))

    -- ---- each mesh is what its own call gives

    -- cut out of the rooms it is what the repair gives in its own rooms
    pub each_own_call : ItsCall (repair_panel points faces ps fs s options r).rooms k (one_call s options (mesh_part ps points k) (mesh_part fs faces k))
    each_own_call =
        let t = taken points faces ps fs s options r e in
        let os = own_calls s options ps fs points faces in
        let d = one_call s options [] [] in
        let n = length_own_calls s options ps fs points faces t.rows in
        subst (λ rooms. ItsCall rooms k (one_call s options (mesh_part ps points k) (mesh_part fs faces k))) (sym (rooms_are points faces ps fs s options r e))
        (subst (λ (o : Outcome RepairRooms). ItsCall (rooms-after points faces ps fs s options r) k o) (own_call_at s options ps fs points faces k d t.rows h)
        (cut_out os d (meshes_told s options ps fs points faces d t.rows) r (3 * (total ps + 3 * total fs)) (3 * total fs) (report_counts * length ps) (total fs) (4 * length ps) (cleared (largest ps fs) r.work) k (omega arith)))

    -- and what it gives in any rooms that are long enough for the mesh
    pub each_its_call :
        (q : RepairRooms) → LongEnough (get_or ps k 0) (get_or fs k 0) q
        → ItsCall (repair_panel points faces ps fs s options r).rooms k (repair (mesh_part ps points k) (mesh_part fs faces k) s options q)
    each_its_call q l =
        let t = taken points faces ps fs s options r e in
        let a = points_of_bytes t k h in
        let b = faces_of t k h in
        let i = each_own_call in
        let x : get_or ps k 0 ≡ length (mesh_part ps points k) / 3 = omega arith in
        let y : get_or fs k 0 ≡ length (mesh_part fs faces k) / 3 = omega arith in
        let long : LongEnough (length (mesh_part ps points k) / 3) (length (mesh_part fs faces k) / 3) q = subst (λ n. LongEnough n (length (mesh_part fs faces k) / 3) q) x (subst (λ n. LongEnough (get_or ps k 0) n q) y l) in
        record {
          in_meshes = i.in_meshes ∙ sym (ap four (same_answer (mesh_part ps points k) (mesh_part fs faces k) s options q long));
          in_points = i.in_points ∙ sym (same_points (mesh_part ps points k) (mesh_part fs faces k) s options q long);
          in_faces = i.in_faces ∙ sym (same_faces (mesh_part ps points k) (mesh_part fs faces k) s options q long);
          in_counts = i.in_counts ∙ sym (same_counts (mesh_part ps points k) (mesh_part fs faces k) s options q long);
          in_origins = i.in_origins ∙ sym (same_origins (mesh_part ps points k) (mesh_part fs faces k) s options q long);
        }

    -- its number in the meshes room
    pub number_own : Own (get_or (repair_panel points faces ps fs s options r).rooms.meshes (4 * k) 0)
    number_own =
        let t = taken points faces ps fs s options r e in
        let d = one_call s options [] [] in
        subst Own (sym (number_at _ k _ each_own_call.in_meshes ∙ sym (ap (λ (o : Outcome RepairRooms). get_or (four o.answer) 0 0) (own_call_at s options ps fs points faces k d t.rows h))))
        (never_1_3_6 d)

    -- its number is 0 exactly if that repair is accepted
    pub zero_exactly :
        (q : RepairRooms) → LongEnough (get_or ps k 0) (get_or fs k 0) q
        → (get_or (repair_panel points faces ps fs s options r).rooms.meshes (4 * k) 0 ≡ 0)
        ↔ ((n : List ℕ) × ((repair (mesh_part ps points k) (mesh_part fs faces k) s options q).answer ≡ accepted n))
    unfolding four
    zero_exactly q l =
        let p = mesh_part ps points k in
        let f = mesh_part fs faces k in
        let number = number_at _ k _ (each_its_call q l).in_meshes in
        (λ z. zero_accepted (repair p f s options q) (repair_ended p f s options q) (sym number ∙ z), λ w. number ∙ ap (λ a. get_or (four a) 0 0) w.1)

-- ---- the answer

-- it can be reckoned from the meshes room: three entries a point, three a face, a report for each accepted mesh, an origin a face, four a mesh
pub panel_answer :
    (points : List Float) (faces ps fs : List ℕ) (s : Float) (options : ℕ) (r : PanelRooms) → panel_check points faces ps fs s options r ≡ ok
    → (let ms = (repair_panel points faces ps fs s options r).rooms.meshes in
    let M = length ps in
    (repair_panel points faces ps fs s options r).answer
    ≡ accepted (3 * before (points_at ms) M ∷ 3 * before (faces_at ms) M ∷ report_counts * before (accepted_at ms) M ∷ before (faces_at ms) M ∷ 4 * M ∷ []))
unfolding repair_panel
panel_answer points faces ps fs s options r e =
    let t = taken points faces ps fs s options r e in
    let os = own_calls s options ps fs points faces in
    let d = one_call s options [] [] in
    let n = length_own_calls s options ps fs points faces t.rows in
    let w = lengths_told os d (meshes_told s options ps fs points faces d t.rows) r (3 * (total ps + 3 * total fs)) (3 * total fs) (report_counts * length ps) (total fs) (4 * length ps) (cleared (largest ps fs) r.work) in
    outcome_is (panel_check points faces ps fs s options r) r _ _ e
    ∙ (λ i. accepted (w.0 i ∷ w.1 i ∷ w.2 i ∷ w.3 i ∷ w.4 i ∷ []))
    ∙ ap (λ (x : List ℕ × ℕ). accepted (3 * before (points_at x.0) x.1 ∷ 3 * before (faces_at x.0) x.1 ∷ report_counts * before (accepted_at x.0) x.1 ∷ before (faces_at x.0) x.1 ∷ 4 * x.1 ∷ []))
    (λ i. ((sym (rooms_are points faces ps fs s options r e) i).meshes, n i))

-- ---- demand 3

-- it holds of each accepted mesh of a call with options 63, as it stands in the rooms
pub panel_demand3 :
    (points : List Float) (faces ps fs : List ℕ) (s : Float) (r : PanelRooms) → panel_check points faces ps fs s 63 r ≡ ok
    → (let left = (repair_panel points faces ps fs s 63 r).rooms in
    (k : ℕ) → k < length ps → get_or left.meshes (4 * k) 0 ≡ 0
    → Mesh3 (mesh_part ps points k) (mesh_part fs faces k) (points_part left k) (faces_part left k) (origins_part left k) (counts_part left k))
panel_demand3 points faces ps fs s r e k h z =
    let p = mesh_part ps points k in
    let f = mesh_part fs faces k in
    let q = own_rooms (get_or ps k 0) (get_or fs k 0) in
    let i = each_its_call points faces ps fs s 63 r e k h q (own_long (get_or ps k 0) (get_or fs k 0)) in
    let w = (zero_exactly points faces ps fs s 63 r e k h q (own_long (get_or ps k 0) (get_or fs k 0))).0 z in
    mesh3_same (sym i.in_points) (sym i.in_faces) (sym i.in_origins) (sym i.in_counts) (repair_mesh3 p f s q w.0 w.1)
