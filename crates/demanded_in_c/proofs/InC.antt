-- Demand 3 of what C gets: the mesh that `shell_repair` leaves in its rooms, by the entries that it tells, that `shell_edges` and `shell_loops` accept
-- it, the loops that the latter then leaves, and that `shell_check` says yes to it; and that what `shell_check` says yes to is refused neither 7 nor 8.
-- The number 0 says that the rules accepted the call, and of that call the rules' demand speaks. Assumes nothing.
use mathlib.Core.Path.{◌≡◌, sym, ap, ◌∙◌, subst}
use mathlib.Core.List.{List, [], ◌∷◌, map}
use Prim.Native.Nat.{ℕ, ◌+◌, ◌*◌, ◌/◌, ◌<◌}
use native.Mathlib.Omega.{arith}
use lib.ListN.{length, get_or, take, length-map}
use lib.Ieee.{Float}
use Rattle.rules.specs.Mesh.{points_of, faces_of, faces_with, flat_points, flat_faces, zero64}
use Rattle.rules.specs.State.{State}
use Rattle.rules.specs.Rooms.{accepted}
use Rattle.rules.specs.Repair.{repaired}
use Rattle.rules.specs.RepairCall.{RepairRooms, repair_check, repair}
use Rattle.rules.specs.EdgesCall.{EdgesRooms, find_edges}
use Rattle.rules.specs.LoopsCall.{LoopsRooms, find_loops}
use Rattle.rules.specs.CheckCall.{check}
use Rattle.rule_laws.proofs.Flat.{length_flat_points, length_flat_faces}
use Rattle.rule_laws.proofs.Demand.{Demand3, Beside, EdgesEnough, LoopsEnough, CheckEnough, SaysYes}
use Rattle.rule_laws.proofs.Called.{Called3, called3, outcome_ok, filled_front, Fine, check_fine}
use Rattle.demanded.proofs.GoneAlong.{GoneAlong, gone_along}
use Rattle.shell.specs.Told.{Given, told}
use Rattle.shell.specs.declared.ShellRepaired.{ShellRepaired}
use Rattle.shell.specs.declared.ShellEdges.{ShellEdges}
use Rattle.shell.specs.declared.ShellLoops.{ShellLoops}
use Rattle.shell.specs.declared.ShellCheck.{ShellCheck}
use Rattle.one_answer.proofs.Numbered.{repair_numbered, loops_numbered}
use Rattle.demanded_in_c.proofs.Zero.{zero_accepted, accepted_zero, one_accepted, number_below}

-- what `shell_repair` ensures with options 63, of its rooms before and after and of what it gives back
abbrev pub RepairedAs : List Float → List ℕ → Float → RepairRooms → RepairRooms → ShellRepaired → Type 0
RepairedAs points faces s before after r = Given r.number r.place (r.points ∷ r.faces ∷ r.counts ∷ r.origins ∷ []) after (repair points faces s 63 before)

-- what `shell_edges` ensures
abbrev pub EdgesAs : List Float → List ℕ → EdgesRooms → EdgesRooms → ShellEdges → Type 0
EdgesAs points faces before after r = Given r.number r.place (r.edges ∷ r.lengths ∷ r.face_edges ∷ []) after (find_edges points faces before)

-- what `shell_loops` ensures
abbrev pub LoopsAs : List Float → List ℕ → LoopsRooms → LoopsRooms → ShellLoops → Type 0
LoopsAs points faces before after r = Given r.number r.place (r.loop_vertices ∷ r.loop_ends ∷ []) after (find_loops points faces before)

-- what `shell_check` ensures
abbrev pub CheckAs : ℕ → List ℕ → List ℕ → List ℕ → ShellCheck → Type 0
CheckAs P faces before after r = Given r.number r.place (r.yes ∷ []) after (check P faces before)

-- the points that stand in the rooms, flat, by the entries that are told
abbrev pub points_in : ShellRepaired → RepairRooms → List Float
points_in r rooms = take r.points rooms.out_points

-- the faces, flat
abbrev pub faces_in_is : ShellRepaired → RepairRooms → List ℕ
faces_in_is r rooms = take r.faces rooms.out_faces

-- the origins, one a face
abbrev pub origins_in : ShellRepaired → RepairRooms → List ℕ
origins_in r rooms = take r.origins rooms.origins

-- the mesh, each face with its origin, and the report
abbrev pub mesh_in : ShellRepaired → RepairRooms → State
mesh_in r rooms = record { points = points_of (points_in r rooms); faces = faces_with (faces_in_is r rooms) (origins_in r rooms); report = take r.counts rooms.report }

-- given enough room, the rules' edge call accepts the points ps and the faces xs, both flat
abbrev EdgesAccept : List Float → List ℕ → Type 0
EdgesAccept ps xs = (q : EdgesRooms) → EdgesEnough (length ps / 3) (length xs / 3) q → (k : List ℕ) × ((find_edges ps xs q).answer ≡ accepted k)

-- and so does their loop call
abbrev LoopsAccept : List Float → List ℕ → Type 0
LoopsAccept ps xs = (q : LoopsRooms) → LoopsEnough (length ps / 3) (length xs / 3) q → (k : List ℕ) × ((find_loops ps xs q).answer ≡ accepted k)

-- the loops of a `shell_loops` of number 0 go along each boundary edge exactly once
pub shell_gone_along :
    (points : List Float) (faces : List ℕ) (before after : LoopsRooms) (r : ShellLoops) → LoopsAs points faces before after r → r.number ≡ 0
    → GoneAlong (faces_of faces) (take r.loop_vertices after.loop_vertices) (take r.loop_ends after.loop_ends)
shell_gone_along points faces before after r g zero =
    subst (λ q. GoneAlong (faces_of faces) (take r.loop_vertices q.loop_vertices) (take r.loop_ends q.loop_ends)) (sym g.after)
    (gone_along points faces before _ (zero_accepted (loops_numbered points faces before) g zero))

-- what `shell_check` says yes to
module _ (points : List Float) (faces before after : List ℕ) (t : ShellCheck) (g : CheckAs (length points / 3) faces before after t) (one : t.yes ≡ 1) where
  -- the rules' word on the other calls
  fine : Fine points faces
  fine = check_fine points faces before (one_accepted g one)

  -- the number of `shell_edges` is below 7
  pub shell_fine_edges : (room after' : EdgesRooms) (r : ShellEdges) → EdgesAs points faces room after' r → r.number < 7
  shell_fine_edges room after' r h = number_below 7 (omega arith) (fine.edge_call room) h

  -- and so is that of `shell_loops`
  pub shell_fine_loops : (room after' : LoopsRooms) (r : ShellLoops) → LoopsAs points faces room after' r → r.number < 7
  shell_fine_loops room after' r h = number_below 7 (omega arith) (fine.loop_call room) h

module _ (points : List Float) (faces : List ℕ) (s : Float) (before after : RepairRooms) (r : ShellRepaired) (g : RepairedAs points faces s before after r) (zero : r.number ≡ 0) where
  -- the rules accepted it
  taken : (repair points faces s 63 before).answer ≡ accepted (r.points ∷ r.faces ∷ r.counts ∷ r.origins ∷ [])
  taken = zero_accepted (repair_numbered points faces s 63 before) g zero

  -- the rules' word on the call
  said : Called3 points faces s before (r.points ∷ r.faces ∷ r.counts ∷ r.origins ∷ [])
  said = called3 points faces s before _ taken

  -- demand 3 holds of the mesh that stands in the rooms
  pub shell_demanded : Demand3 (points_of points) (faces_of faces) (mesh_in r after)
  shell_demanded = subst (λ q. Demand3 (points_of points) (faces_of faces) (mesh_in r q)) (sym g.after) said.holds

  -- its corners are points, and no face repeats one
  pub shell_demanded_beside : Beside (mesh_in r after)
  shell_demanded_beside = subst (λ q. Beside (mesh_in r q)) (sym g.after) said.beside

  -- so many entries stand there
  pub shell_demanded_entries : (length (points_in r after) ≡ r.points) × (length (faces_in_is r after) ≡ r.faces) × (length (origins_in r after) ≡ r.origins)
  unfolding repair
  shell_demanded_entries =
      let m = repaired s 63 (points_of points) (faces_of faces) in
      let o = outcome_ok (repair_check points faces s 63 before) before _ _ _ taken in
      let p = ap (λ l. get_or l 0 0) o.1 in
      let f = ap (λ l. get_or l 1 0) o.1 in
      let k = ap (λ l. get_or l 3 0) o.1 in (
        ap (λ q. length (points_in r q)) (g.after ∙ o.2)
            ∙ ap length (filled_front zero64 (3 * (length points / 3 + 3 * (length faces / 3))) r.points (flat_points m.points) before.out_points (length_flat_points m.points ∙ p))
            ∙ length_flat_points m.points ∙ p,
        ap (λ q. length (faces_in_is r q)) (g.after ∙ o.2)
            ∙ ap length (filled_front 0 (3 * (length faces / 3)) r.faces (flat_faces m.faces) before.out_faces (length_flat_faces m.faces ∙ f))
            ∙ length_flat_faces m.faces ∙ f,
        ap (λ q. length (origins_in r q)) (g.after ∙ o.2)
            ∙ ap length (filled_front 0 (length faces / 3) r.origins (map (λ t. t.origin) m.faces) before.origins (length-map m.faces (λ t. t.origin) ∙ k))
            ∙ length-map m.faces (λ t. t.origin) ∙ k,
      )

  -- room for so many points and faces is room for the mesh that stands there
  room_for : (Enough : ℕ → ℕ → Type 0) → Enough (r.points / 3) (r.faces / 3) → Enough (length (points_in r after) / 3) (length (faces_in_is r after) / 3)
  room_for Enough enough =
      let e = shell_demanded_entries in
      subst (λ P. Enough (P / 3) (length (faces_in_is r after) / 3)) (sym e.0) (subst (λ F. Enough (r.points / 3) (F / 3)) (sym e.1) enough)

  -- given enough room, `shell_edges` on it gives number 0
  pub shell_demanded_edges :
      (room after' : EdgesRooms) (t : ShellEdges) → EdgesEnough (r.points / 3) (r.faces / 3) room → EdgesAs (points_in r after) (faces_in_is r after) room after' t
      → t.number ≡ 0
  shell_demanded_edges room after' t enough h =
      accepted_zero (subst (λ w. EdgesAccept (points_in r w) (faces_in_is r w)) (sym g.after) said.edge_call room (room_for (λ P F. EdgesEnough P F room) enough)).1 h

  -- and so does `shell_loops`
  pub shell_demanded_loop_call :
      (room after' : LoopsRooms) (t : ShellLoops) → LoopsEnough (r.points / 3) (r.faces / 3) room → LoopsAs (points_in r after) (faces_in_is r after) room after' t
      → t.number ≡ 0
  shell_demanded_loop_call room after' t enough h =
      accepted_zero (subst (λ w. LoopsAccept (points_in r w) (faces_in_is r w)) (sym g.after) said.loop_call room (room_for (λ P F. LoopsEnough P F room) enough)).1 h

  -- whose loops go along each boundary edge exactly once
  pub shell_demanded_loops :
      (room after' : LoopsRooms) (t : ShellLoops) → LoopsEnough (r.points / 3) (r.faces / 3) room → LoopsAs (points_in r after) (faces_in_is r after) room after' t
      → GoneAlong (faces_of (faces_in_is r after)) (take t.loop_vertices after'.loop_vertices) (take t.loop_ends after'.loop_ends)
  shell_demanded_loops room after' t enough h =
      shell_gone_along (points_in r after) (faces_in_is r after) room after' t h (shell_demanded_loop_call room after' t enough h)

  -- given enough work room, `shell_check` on it gives number 0 and yes
  pub shell_demanded_yes :
      (room after' : List ℕ) (t : ShellCheck) → CheckEnough (r.points / 3) (r.faces / 3) room → CheckAs (r.points / 3) (faces_in_is r after) room after' t
      → (t.number ≡ 0) × (t.yes ≡ 1)
  shell_demanded_yes room after' t enough h =
      let a = says_yes room (room_for (λ P F. CheckEnough P F room) enough) in
      let k = subst (λ P. CheckAs (P / 3) (faces_in_is r after) room after' t) (sym shell_demanded_entries.0) h in
      (accepted_zero a k, ap (λ l. get_or l 2 0) (k.answer ∙ ap (told 1) a))
    where
      says_yes : SaysYes (length (points_in r after) / 3) (faces_in_is r after)
      says_yes = subst (λ w. SaysYes (length (points_in r w) / 3) (faces_in_is r w)) (sym g.after) said.check_call
