-- What an accepted file says of itself and of the rooms. Assumes nothing.
use mathlib.Core.Path.{◌≡◌, refl}
use mathlib.Core.List.{List, [], ◌∷◌}
use Prim.Native.Nat.{ℕ, ◌*◌}
use lib.ListN.{length}
use lib.Dec.{nltb→le}
use Rattle.rules.specs.Lists.{below}
use Rattle.rules.specs.Refusal.{ok, decided, most_points, most_faces}
use Rattle.rules.specs.Rooms.{work_room}
use Rattle.rules.specs.Ply.{vertices_in, faces_in_is}
use Rattle.rules.specs.ReadPlyCall.{read_ply_rooms, ReadPlyRooms, read_ply_check}
use Rattle.rule_laws.proofs.Decided.{decided_all}
use Rattle.refuse.proofs.Accept.{rooms_fine}
use Rattle.refuse.proofs.Singles.{no2_fine}
use Rattle.ply_file.specs.Files.{PlyAccepted, ply_list}

-- the list of checks is the rules'
pub ply_is : (file : List ℕ) (r : ReadPlyRooms) → decided (ply_list file (length r.points) (length r.faces) (length r.work)) ≡ read_ply_check file r
unfolding read_ply_check
ply_is file r = refl

-- where no check finds anything, what each says
pub ply_accepted : (file : List ℕ) (points faces work : ℕ) → decided (ply_list file points faces work) ≡ ok → PlyAccepted file points faces work
unfolding below read_ply_rooms
ply_accepted file points faces work e =
    let P = vertices_in file in
    let F = faces_in_is file in
    let a = decided_all (ply_list file points faces work) e in
    let g = rooms_fine (read_ply_rooms P F) (points ∷ faces ∷ work ∷ []) a.1.1.1.1.1.1.0 in
    record {
      form = a.0;
      limits = record { points = no2_fine 0 P most_points a.1.0; faces = no2_fine 1 F most_faces a.1.1.0 };
      triple = a.1.1.1.0;
      domain = a.1.1.1.1.0;
      corners = a.1.1.1.1.1.0;
      room_points = nltb→le points (3 * P) g.0;
      room_faces = nltb→le faces (3 * F) g.1.0;
      room_work = nltb→le work (work_room P F) g.1.1.0;
    }
