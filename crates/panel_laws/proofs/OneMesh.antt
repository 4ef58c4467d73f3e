-- A call for one mesh: it leaves in the rooms of a repair what the repair leaves there, and the mesh's four entries in the meshes room. Assumes nothing.
use mathlib.Core.Path.{◌≡◌, refl, sym, ap, ◌∙◌}
use mathlib.Core.List.{List, [], ◌∷◌, ◌++◌, append-nil}
use Prim.Native.Nat.{ℕ, ◌+◌, ◌*◌, ◌/◌, max}
use native.Mathlib.Omega.{arith}
use lib.Ieee.{Float}
use lib.ListN.{length}
use lib.Seq.{take_all}
use Rattle.rules.specs.Lists.{each}
use Rattle.rules.specs.Mesh.{zero64}
use Rattle.rules.specs.State.{report_counts}
use Rattle.rules.specs.Refusal.{ok}
use Rattle.rules.specs.Rooms.{work_room, filled, cleared, accepted, refused, Outcome}
use Rattle.rules.specs.RepairCall.{RepairRooms, repair_check, repair}
use Rattle.rules.specs.PanelCall.{total, one_call, own_calls, shared, its_points, its_faces, its_counts, its_origins, four, largest, PanelRooms, panel_check, repair_panel}
use Rattle.rule_laws.proofs.Called.{outcome_ok, outcome_is}
use Rattle.panel_laws.proofs.Alone.{LongEnough, same_answer, same_points, same_faces, same_counts, same_origins, accepted_points, accepted_faces, accepted_counts, accepted_origins, points_number, faces_number, counts_number, origins_number}
use Rattle.panel_laws.proofs.Packing.{length_four}
use Rattle.panel_laws.proofs.Taken.{Taken, taken, rooms_are}

-- the rooms of a repair among those of the call: all but the meshes room
abbrev pub repair_part : PanelRooms → RepairRooms
repair_part r = record { out_points = r.out_points; out_faces = r.out_faces; report = r.report; origins = r.origins; work = r.work }

-- rooms that hold these parts in front, zeros to what is stated for P points and F faces, and what they held beyond
abbrev pub room_of : ℕ → ℕ → RepairRooms → List Float → List ℕ → List ℕ → List ℕ → RepairRooms
room_of P F r points faces counts origins =
    record {
      out_points = filled zero64 (3 * (P + 3 * F)) points r.out_points;
      out_faces = filled 0 (3 * F) faces r.out_faces;
      report = filled 0 report_counts counts r.report;
      origins = filled 0 F origins r.origins;
      work = cleared (work_room P F) r.work;
    }

-- what one element makes
each_one : {A B : Type 0} (f : A → List B) (x : A) → each f (x ∷ []) ≡ f x
unfolding each
each_one f x = append-nil (f x)

module _
    (points : List Float) (faces : List ℕ) (P F : ℕ) (s : Float) (options : ℕ) (r : PanelRooms)
    (e : panel_check points faces (P ∷ []) (F ∷ []) s options r ≡ ok)
  where
    -- what its check says
    t : Taken points faces (P ∷ []) (F ∷ []) s options r
    t = taken points faces (P ∷ []) (F ∷ []) s options r e

    -- all points are the mesh's
    all_points : length points ≡ 3 * P
    unfolding total
    all_points = omega (arith, t.points_add)

    -- and all faces
    all_faces : length faces ≡ 3 * F
    unfolding total
    all_faces = omega (arith, t.faces_add)

    -- the rooms are long enough for a repair
    pub one_long : LongEnough (length points / 3) (length faces / 3) (repair_part r)
    unfolding total largest work_room
    one_long =
        let a = all_points in
        let b = all_faces in
        record {
          room_points = omega (arith, t.room_points);
          room_faces = omega (arith, t.room_faces);
          room_report = omega (arith, t.room_report);
          room_origins = omega (arith, t.room_origins);
          room_work = omega (arith, t.room_work);
        }

    -- there is one repair, of all points and faces
    own_one : own_calls s options (P ∷ []) (F ∷ []) points faces ≡ one_call s options points faces ∷ []
    unfolding own_calls
    own_one i = one_call s options (take_all (3 * P) points (omega (arith, all_points)) i) (take_all (3 * F) faces (omega (arith, all_faces)) i) ∷ []

    -- the points of all meshes are those of this one, which a repair in the call's rooms shares
    points_are : each its_points (own_calls s options (P ∷ []) (F ∷ []) points faces) ≡ its_points (repair points faces s options (repair_part r))
    points_are = ap (each its_points) own_one ∙ each_one its_points (one_call s options points faces) ∙ sym (same_points points faces s options (repair_part r) one_long)

    -- so are the faces
    faces_are : each its_faces (own_calls s options (P ∷ []) (F ∷ []) points faces) ≡ its_faces (repair points faces s options (repair_part r))
    faces_are = ap (each its_faces) own_one ∙ each_one its_faces (one_call s options points faces) ∙ sym (same_faces points faces s options (repair_part r) one_long)

    -- so are the counts
    counts_are : each its_counts (own_calls s options (P ∷ []) (F ∷ []) points faces) ≡ its_counts (repair points faces s options (repair_part r))
    counts_are = ap (each its_counts) own_one ∙ each_one its_counts (one_call s options points faces) ∙ sym (same_counts points faces s options (repair_part r) one_long)

    -- so are the origins
    origins_are : each its_origins (own_calls s options (P ∷ []) (F ∷ []) points faces) ≡ its_origins (repair points faces s options (repair_part r))
    origins_are = ap (each its_origins) own_one ∙ each_one its_origins (one_call s options points faces) ∙ sym (same_origins points faces s options (repair_part r) one_long)

    -- and so are the four entries
    fours_are : each (λ o. four o.answer) (own_calls s options (P ∷ []) (F ∷ []) points faces) ≡ four (repair points faces s options (repair_part r)).answer
    fours_are =
        ap (each (λ o. four o.answer)) own_one ∙ each_one (λ (o : Outcome RepairRooms). four o.answer) (one_call s options points faces)
        ∙ sym (ap four (same_answer points faces s options (repair_part r) one_long))

    -- the rooms hold what that repair shares
    one_left :
        let o = repair points faces s options (repair_part r) in
        repair_part (repair_panel points faces (P ∷ []) (F ∷ []) s options r).rooms ≡ room_of P F (repair_part r) (its_points o) (its_faces o) (its_counts o) (its_origins o)
    unfolding total largest
    one_left =
        let a : 3 * (P + 0 + 3 * (F + 0)) ≡ 3 * (P + 3 * F) = omega arith in
        let b : 3 * (F + 0) ≡ 3 * F = omega arith in
        let c : report_counts * 1 ≡ report_counts = refl in
        let d : F + 0 ≡ F = omega arith in
        let w : max (work_room P F) 0 ≡ work_room P F = omega arith in
        ap repair_part (rooms_are points faces (P ∷ []) (F ∷ []) s options r e)
        ∙ (λ i. record {
          out_points = filled zero64 (a i) (points_are i) r.out_points;
          out_faces = filled 0 (b i) (faces_are i) r.out_faces;
          report = filled 0 (c i) (counts_are i) r.report;
          origins = filled 0 (d i) (origins_are i) r.origins;
          work = cleared (w i) r.work;
        })

    -- ---- the call for one mesh

    -- a mesh that the repair accepts: each of its rooms is as the repair leaves it
    pub one_mesh :
        (n : List ℕ) → (repair points faces s options (repair_part r)).answer ≡ accepted n
        → repair_part (repair_panel points faces (P ∷ []) (F ∷ []) s options r).rooms ≡ (repair points faces s options (repair_part r)).rooms
    unfolding repair
    one_mesh n h =
        let w = outcome_ok (repair_check points faces s options (repair_part r)) (repair_part r) _ _ n h in
        let P-is : P ≡ length points / 3 = omega (arith, all_points) in
        let F-is : F ≡ length faces / 3 = omega (arith, all_faces) in
        let a = accepted_points points faces s options (repair_part r) w.0 in
        let b = accepted_faces points faces s options (repair_part r) w.0 in
        let c = accepted_counts points faces s options (repair_part r) w.0 in
        let d = accepted_origins points faces s options (repair_part r) w.0 in
        one_left ∙ (λ i. room_of (P-is i) (F-is i) (repair_part r) (a i) (b i) (c i) (d i)) ∙ sym w.2

    -- a mesh that it refuses: nothing but zeros up to what is stated
    pub one_mesh_refused :
        (n p : ℕ) → (repair points faces s options (repair_part r)).answer ≡ refused n p
        → repair_part (repair_panel points faces (P ∷ []) (F ∷ []) s options r).rooms ≡ room_of P F (repair_part r) [] [] [] []
    unfolding its_points its_faces its_counts its_origins shared
    one_mesh_refused n p h =
        let o = repair points faces s options (repair_part r) in
        one_left
        ∙ (λ i. room_of P F (repair_part r) (shared 0 (h i) o.rooms.out_points) (shared 1 (h i) o.rooms.out_faces) (shared 2 (h i) o.rooms.report) (shared 3 (h i) o.rooms.origins))

    -- and the meshes room begins with its four
    pub one_mesh_four : (repair_panel points faces (P ∷ []) (F ∷ []) s options r).rooms.meshes ≡ filled 0 4 (four (repair points faces s options (repair_part r)).answer) r.meshes
    one_mesh_four = ap (λ (q : PanelRooms). q.meshes) (rooms_are points faces (P ∷ []) (F ∷ []) s options r e) ∙ ap (λ l. filled 0 4 l r.meshes) fours_are

    -- the answer is the repair's, with four entries in the meshes room
    pub one_mesh_answer :
        (n : List ℕ) → (repair points faces s options (repair_part r)).answer ≡ accepted n
        → (repair_panel points faces (P ∷ []) (F ∷ []) s options r).answer ≡ accepted (n ++ (4 ∷ []))
    unfolding repair_panel repair
    one_mesh_answer n h =
        let w = outcome_ok (repair_check points faces s options (repair_part r)) (repair_part r) _ _ n h in
        let a = ap length points_are ∙ points_number points faces s options (repair_part r) w.0 in
        let b = ap length faces_are ∙ faces_number points faces s options (repair_part r) w.0 in
        let c = ap length counts_are ∙ counts_number points faces s options (repair_part r) w.0 in
        let d = ap length origins_are ∙ origins_number points faces s options (repair_part r) w.0 in
        let k = ap length fours_are ∙ length_four (repair points faces s options (repair_part r)).answer in
        outcome_is (panel_check points faces (P ∷ []) (F ∷ []) s options r) r _ _ e
        ∙ (λ i. accepted (a i ∷ b i ∷ c i ∷ d i ∷ k i ∷ []))
        ∙ ap (λ l. accepted (l ++ (4 ∷ []))) w.1
