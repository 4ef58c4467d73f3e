-- What is known of the input and the rooms of writing where nothing is refused. Assumes nothing.
use mathlib.Core.Path.{◌≡◌, refl}
use mathlib.Core.List.{List, [], ◌∷◌}
use Prim.Native.Nat.{ℕ, ◌+◌, ◌*◌, ◌/◌}
use lib.ListN.{length}
use lib.Dec.{nltb→le}
use lib.Ieee.{Float}
use Rattle.rules.specs.Lists.{below}
use Rattle.rules.specs.Refusal.{ok, decided}
use Rattle.rules.specs.Rooms.{work_room}
use Rattle.rules.specs.Ply.{header}
use Rattle.rules.specs.WritePlyCall.{write_ply_rooms, WritePlyRooms, write_ply_check}
use Rattle.rule_laws.proofs.Decided.{decided_all}
use Rattle.refuse.proofs.Accept.{input_from, rooms_fine}
use Rattle.write_ply_refusal.specs.Checks.{write_ply_list, WritePlyAccepted}

-- the list of checks is the rules'
pub write_ply_is : (points : List Float) (faces : List ℕ) (r : WritePlyRooms) → decided (write_ply_list points faces (length r.file) (length r.work)) ≡ write_ply_check points faces r
unfolding write_ply_check
write_ply_is points faces r = refl

-- where no check finds anything the input is good and the rooms are long enough
pub write_ply_accepted : (points : List Float) (faces : List ℕ) (a b : ℕ) → decided (write_ply_list points faces a b) ≡ ok → WritePlyAccepted points faces a b
unfolding below write_ply_rooms
write_ply_accepted points faces a b h =
    let P = length points / 3 in
    let F = length faces / 3 in
    let r = decided_all (write_ply_list points faces a b) h in
    let g = rooms_fine (write_ply_rooms P F) (a ∷ b ∷ []) r.1.1.1.1.1.1.0 in
    record {
      input = input_from points faces r.0 r.1.0 r.1.1.0 r.1.1.1.0 r.1.1.1.1.0 r.1.1.1.1.1.0;
      room_file = nltb→le a (length (header P F) + 24 * P + 13 * F) g.0;
      room_work = nltb→le b (work_room P F) g.1.0;
    }
