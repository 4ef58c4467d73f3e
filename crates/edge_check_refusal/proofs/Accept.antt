-- What an accepted edge check says of its input and of its room. Assumes nothing.
use mathlib.Core.Path.{◌≡◌, refl}
use mathlib.Core.List.{List, [], ◌∷◌}
use Prim.Native.Nat.{ℕ, ◌/◌}
use lib.ListN.{length}
use lib.Dec.{nltb→le}
use Rattle.rules.specs.Lists.{below}
use Rattle.rules.specs.Refusal.{ok, decided}
use Rattle.rules.specs.Rooms.{work_room}
use Rattle.rules.specs.CheckCall.{check_rooms, check_check}
use Rattle.rule_laws.proofs.Decided.{decided_all}
use Rattle.refuse.proofs.Accept.{faces_from_row, rooms_fine}
use Rattle.edge_check_refusal.specs.Checks.{check_list, CheckAccepted}

-- the list of checks is the rules', at the length of the room
pub check_is : (P : ℕ) (faces work : List ℕ) → decided (check_list P faces (length work)) ≡ check_check P faces work
unfolding check_check
check_is P faces work = refl

-- where it finds nothing the faces are good and the room is long enough
pub check_accepted : (P : ℕ) (faces : List ℕ) (a : ℕ) → decided (check_list P faces a) ≡ ok → CheckAccepted P faces a
unfolding below check_rooms
check_accepted P faces a e =
    let F = length faces / 3 in
    let r = decided_all (check_list P faces a) e in
    let g = rooms_fine (check_rooms P F) (a ∷ []) r.1.1.1.1.0 in
    record { input = faces_from_row P faces r.0 r.1.0 r.1.1.0 r.1.1.1.0; room_work = nltb→le a (work_room P F) g.0 }
