-- What an accepted repair says of its input and of its rooms. Assumes nothing.
use mathlib.Core.Path.{◌≡◌, refl}
use mathlib.Core.List.{List, [], ◌∷◌}
use Prim.Native.Nat.{ℕ, ◌+◌, ◌*◌, ◌/◌}
use lib.ListN.{length}
use lib.Dec.{nltb→le}
use lib.Ieee.{Float}
use Rattle.rules.specs.State.{report_counts}
use Rattle.rules.specs.Lists.{below}
use Rattle.rules.specs.Refusal.{ok, decided}
use Rattle.rules.specs.Rooms.{work_room}
use Rattle.rules.specs.RepairCall.{repair_rooms, RepairRooms, repair_check}
use Rattle.rule_laws.proofs.Decided.{decided_all}
use Rattle.refuse.proofs.Accept.{input_from, options_fine, rooms_fine}
use Rattle.repair_refusal.specs.Checks.{repair_list, RepairAccepted}

-- the list of checks is the rules', at the lengths of the rooms
pub repair_is :
    (points : List Float) (faces : List ℕ) (s : Float) (options : ℕ) (r : RepairRooms)
    → decided (repair_list points faces s options (length r.out_points) (length r.out_faces) (length r.report) (length r.origins) (length r.work))
    ≡ repair_check points faces s options r
unfolding repair_check
repair_is points faces s options r = refl

-- where it finds nothing the input is good and the rooms are long enough
pub repair_accepted :
    (points : List Float) (faces : List ℕ) (s : Float) (o a b c d e : ℕ) → decided (repair_list points faces s o a b c d e) ≡ ok
    → RepairAccepted points faces o a b c d e
unfolding below repair_rooms
repair_accepted points faces s o a b c d e q =
    let P = length points / 3 in
    let F = length faces / 3 in
    let r = decided_all (repair_list points faces s o a b c d e) q in
    let g = rooms_fine (repair_rooms P F) (a ∷ b ∷ c ∷ d ∷ e ∷ []) r.1.1.1.1.1.1.1.1.0 in
    record {
      input = input_from points faces r.0 r.1.0 r.1.1.0 r.1.1.1.0 r.1.1.1.1.1.1.0 r.1.1.1.1.1.1.1.0;
      settings = options_fine o r.1.1.1.1.1.0;
      room_out_points = nltb→le a (3 * (P + 3 * F)) g.0;
      room_out_faces = nltb→le b (3 * F) g.1.0;
      room_report = nltb→le c report_counts g.1.1.0;
      room_origins = nltb→le d F g.1.1.1.0;
      room_work = nltb→le e (work_room P F) g.1.1.1.1.0;
    }
