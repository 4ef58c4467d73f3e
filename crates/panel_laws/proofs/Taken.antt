-- What an accepted call for packed meshes says of its rows, of its settings and of its rooms, and what it leaves in them. Assumes nothing.
use mathlib.Core.Path.{◌≡◌}
use mathlib.Core.List.{List, [], ◌∷◌}
use Prim.Native.Nat.{ℕ, ◌+◌, ◌*◌, ◌≤◌, ◌<◌}
use native.Mathlib.Omega.{arith}
use lib.Dec.{ltb, eqb→eq, nltb→le}
use lib.Ieee.{Float}
use lib.ListN.{length, get_or}
use Rattle.rules.specs.Lists.{below, each}
use Rattle.rules.specs.Mesh.{zero64}
use Rattle.rules.specs.State.{report_counts}
use Rattle.rules.specs.Refusal.{ok, no3_threshold, no3_options, no6}
use Rattle.rules.specs.Rooms.{filled, cleared, outcome}
use Rattle.rules.specs.PanelCall.{total, own_calls, its_points, its_faces, its_counts, its_origins, four, largest, panel_rooms, PanelRooms, no1_rows, no1_total, panel_check, repair_panel}
use Rattle.rule_laws.proofs.Decided.{decided_all, unless_ok}
use Rattle.rule_laws.proofs.Firsts.{at_first_all}
use Rattle.panel_laws.specs.Cutting.{mesh_part}
use Rattle.panel_laws.proofs.Packing.{length_part}

-- rows of the same length that add up, good settings, rooms that are long enough
pub record Taken (points : List Float) (faces ps fs : List ℕ) (s : Float) (options : ℕ) (r : PanelRooms) : Type 0 where
  pub rows : length ps ≡ length fs
  pub points_add : 3 * total ps ≡ length points
  pub faces_add : 3 * total fs ≡ length faces
  pub threshold_fine : no3_threshold s ≡ ok
  pub options_fine : no3_options options ≡ ok
  pub room_points : 3 * (total ps + 3 * total fs) ≤ length r.out_points
  pub room_faces : 3 * total fs ≤ length r.out_faces
  pub room_report : report_counts * length ps ≤ length r.report
  pub room_origins : total fs ≤ length r.origins
  pub room_meshes : 4 * length ps ≤ length r.meshes
  pub room_work : largest ps fs ≤ length r.work

module _ (points : List Float) (faces ps fs : List ℕ) (s : Float) (options : ℕ) (r : PanelRooms) where
  -- by its checks
  pub taken : panel_check points faces ps fs s options r ≡ ok → Taken points faces ps fs s options r
  unfolding panel_check no1_rows no1_total no6 panel_rooms below
  taken e =
      let c = decided_all _ e in
      let g = at_first_all 6 (λ k. ltb (get_or given k 0) (get_or (panel_rooms ps fs) k 0)) (below 6) c.1.1.1.1.1.1.0 in
      record {
        rows = eqb→eq (length ps) (length fs) (unless_ok 1 0 _ c.0);
        points_add = eqb→eq (3 * total ps) (length points) (unless_ok 1 0 _ c.1.0);
        faces_add = eqb→eq (3 * total fs) (length faces) (unless_ok 1 1 _ c.1.1.0);
        threshold_fine = c.1.1.1.1.0;
        options_fine = c.1.1.1.1.1.0;
        room_points = nltb→le (length r.out_points) (3 * (total ps + 3 * total fs)) g.0;
        room_faces = nltb→le (length r.out_faces) (3 * total fs) g.1.0;
        room_report = nltb→le (length r.report) (report_counts * length ps) g.1.1.0;
        room_origins = nltb→le (length r.origins) (total fs) g.1.1.1.0;
        room_meshes = nltb→le (length r.meshes) (4 * length ps) g.1.1.1.1.0;
        room_work = nltb→le (length r.work) (largest ps fs) g.1.1.1.1.1.0;
      }
    where
      given : List ℕ
      given = length r.out_points ∷ length r.out_faces ∷ length r.report ∷ length r.origins ∷ length r.meshes ∷ length r.work ∷ []

  -- what an accepted call leaves in the rooms: what all meshes share, packed
  abbrev pub rooms-after : PanelRooms
  rooms-after =
      record {
        out_points = filled zero64 (3 * (total ps + 3 * total fs)) (each its_points (own_calls s options ps fs points faces)) r.out_points;
        out_faces = filled 0 (3 * total fs) (each its_faces (own_calls s options ps fs points faces)) r.out_faces;
        report = filled 0 (report_counts * length ps) (each its_counts (own_calls s options ps fs points faces)) r.report;
        origins = filled 0 (total fs) (each its_origins (own_calls s options ps fs points faces)) r.origins;
        meshes = filled 0 (4 * length ps) (each (λ o. four o.answer) (own_calls s options ps fs points faces)) r.meshes;
        work = cleared (largest ps fs) r.work;
      }

  -- these are the rooms of its outcome
  pub rooms_are : panel_check points faces ps fs s options r ≡ ok → (repair_panel points faces ps fs s options r).rooms ≡ rooms-after
  unfolding repair_panel outcome
  rooms_are e = rw e

-- ---- mesh k of such a call

module _ {points : List Float} {faces ps fs : List ℕ} {s : Float} {options : ℕ} {r : PanelRooms} (t : Taken points faces ps fs s options r) (k : ℕ) (h : k < length ps) where
  -- it has whole points, as many as its row says
  pub points_of_bytes : length (mesh_part ps points k) ≡ 3 * get_or ps k 0
  points_of_bytes = length_part ps points k (omega (arith, t.points_add)) h

  -- and whole faces
  pub faces_of : length (mesh_part fs faces k) ≡ 3 * get_or fs k 0
  faces_of = length_part fs faces k (omega (arith, t.faces_add)) (omega (arith, t.rows))
