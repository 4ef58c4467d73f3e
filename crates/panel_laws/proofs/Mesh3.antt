-- Demand 3 of a mesh that is given by its flat lists, and of what an accepted repair with options 63 shares. Assumes nothing.
use mathlib.Core.Path.{◌≡◌, sym, ap, subst}
use mathlib.Core.List.{List}
use Prim.Native.Nat.{ℕ, ◌+◌, ◌*◌, ◌/◌, ◌≤◌}
use lib.Ieee.{Float}
use lib.ListN.{length, get_or, take}
use Rattle.rules.specs.Mesh.{points_of, faces_of, faces_with}
use Rattle.rules.specs.State.{State}
use Rattle.rules.specs.Rooms.{Answer, accepted}
use Rattle.rules.specs.Calls.{RepairRooms, repair, EdgesRooms, find_edges, LoopsRooms, find_loops}
use Rattle.rules.specs.PanelCall.{shared, its_points, its_faces, its_counts, its_origins}
use Rattle.rule_laws.proofs.Demand.{Demand3, Beside, Looped, EdgesEnough, LoopsEnough, SaysYes}
use Rattle.rule_laws.proofs.Called.{called3}

-- the mesh of flat points, flat faces and origins, with its report
abbrev pub mesh_of : List Float → List ℕ → List ℕ → List ℕ → State
mesh_of points faces origins counts = record { points = points_of points; faces = faces_with faces origins; report = counts }

-- what `Called3` says of what a repair left in its rooms, of lists: these points and faces were mended to the lists xs and ts with origins and counts
pub record Mesh3 (points : List Float) (faces : List ℕ) (xs : List Float) (ts origins counts : List ℕ) : Type 0 where
  pub holds : Demand3 (points_of points) (faces_of faces) (mesh_of xs ts origins counts)
  -- corners are points, and no face repeats one
  pub beside : Beside (mesh_of xs ts origins counts)
  -- it fits in the rooms stated for it
  pub points_fit : length (mesh_of xs ts origins counts).points ≤ length points / 3 + 3 * (length faces / 3)
  pub faces_fit : length (mesh_of xs ts origins counts).faces ≤ length faces / 3
  -- given enough room, the edge call accepts it
  pub edge_call : (q : EdgesRooms) → EdgesEnough (length xs / 3) (length ts / 3) q → (n : List ℕ) × ((find_edges xs ts q).answer ≡ accepted n)
  -- and so does the loop call
  pub loop_call : (q : LoopsRooms) → LoopsEnough (length xs / 3) (length ts / 3) q → (n : List ℕ) × ((find_loops xs ts q).answer ≡ accepted n)
  -- given enough work room, the edge check says yes to it
  pub check_call : SaysYes (length xs / 3) ts
  -- each boundary edge is in exactly one loop
  pub edge_loops : Looped (length xs / 3) (faces_of ts)

-- what an accepted mesh shares of a room is as much as its answer says
shared_accepted : {A : Type 0} (k : ℕ) (a : Answer) (n : List ℕ) (room : List A) → a ≡ accepted n → take (get_or n k 0) room ≡ shared k a room
unfolding shared
shared_accepted k a n room e = sym (ap (λ x. shared k x room) e)

-- the same lists
pub mesh3_same :
    {points : List Float} {faces : List ℕ} {xs ys : List Float} {ts us os qs cs ds : List ℕ} → xs ≡ ys → ts ≡ us → os ≡ qs → cs ≡ ds
    → Mesh3 points faces xs ts os cs → Mesh3 points faces ys us qs ds
mesh3_same {points} {faces} {xs} {ys} {ts} {us} {os} {qs} {cs} {ds} a b c d m =
    subst (λ l. Mesh3 points faces l us qs ds) a (subst (λ l. Mesh3 points faces xs l qs ds) b (subst (λ l. Mesh3 points faces xs ts l ds) c (subst (λ l. Mesh3 points faces xs ts os l) d m)))

-- of what an accepted repair shares
pub repair_mesh3 :
    (points : List Float) (faces : List ℕ) (s : Float) (r : RepairRooms) (n : List ℕ) → (repair points faces s 63 r).answer ≡ accepted n
    → (let o = repair points faces s 63 r in Mesh3 points faces (its_points o) (its_faces o) (its_origins o) (its_counts o))
unfolding its_points its_faces its_origins its_counts
repair_mesh3 points faces s r n e =
    let c = called3 points faces s r n e in
    let o = repair points faces s 63 r in
    mesh3_same
    (shared_accepted 0 o.answer n o.rooms.out_points e) (shared_accepted 1 o.answer n o.rooms.out_faces e)
    (shared_accepted 3 o.answer n o.rooms.origins e) (shared_accepted 2 o.answer n o.rooms.report e)
    (record {
      holds = c.holds;
      beside = c.beside;
      points_fit = c.points_fit;
      faces_fit = c.faces_fit;
      edge_call = c.edge_call;
      loop_call = c.loop_call;
      check_call = c.check_call;
      edge_loops = c.edge_loops;
    })
