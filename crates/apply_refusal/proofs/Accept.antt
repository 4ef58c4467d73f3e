-- What an accepted call says of its input, of the list and of its rooms. Assumes nothing.
use mathlib.Core.Path.{◌≡◌, refl, sym}
use mathlib.Core.List.{List, [], ◌∷◌}
use Prim.Native.Nat.{ℕ, ◌+◌, ◌*◌, ◌/◌}
use lib.ListN.{length}
use lib.Dec.{nltb→le}
use lib.Ieee.{Float}
use Rattle.rules.specs.Lists.{below}
use Rattle.rules.specs.Refusal.{ok, decided}
use Rattle.rules.specs.Rooms.{work_room}
use Rattle.rules.specs.ApplyCall.{apply_rooms, ApplyRooms, apply_check}
use Rattle.rule_laws.proofs.Decided.{decided_all}
use Rattle.refuse.specs.Verdicts.{sizes, contents}
use Rattle.refuse.specs.Accepted.{Accepted}
use Rattle.refuse.proofs.Accept.{input_from, rooms_fine}
use Rattle.apply_refusal.specs.Checks.{apply_checks, ApplyAccepted}

-- the list of checks is the rules', at the lengths of the rooms
pub apply_is :
    (points : List Float) (faces text : List ℕ) (r : ApplyRooms)
    → decided (apply_checks points faces text (length r.out_points) (length r.out_faces) (length r.work))
    ≡ apply_check points faces text r
unfolding apply_check
apply_is points faces text r = refl

-- where the checks before 15 find nothing the input is good
pub input_is :
    (points : List Float) (faces : List ℕ) → ok ≡ decided (sizes (length points) (length faces)) → ok ≡ decided (contents points faces) → Accepted points faces
input_is points faces a b =
    let r = decided_all (sizes (length points) (length faces)) (sym a) in
    let q = decided_all (contents points faces) (sym b) in
    input_from points faces r.0 r.1.0 r.1.1.0 r.1.1.1.0 q.0 q.1.0

-- where all find nothing the list applies and the rooms are long enough
pub apply_accepted :
    (points : List Float) (faces text : List ℕ) (a b c : ℕ) → decided (apply_checks points faces text a b c) ≡ ok
    → ApplyAccepted points faces text a b c
unfolding below apply_rooms
apply_accepted points faces text a b c q =
    let P = length points / 3 in
    let F = length faces / 3 in
    let r = decided_all (apply_checks points faces text a b c) q in
    let g = rooms_fine (apply_rooms P F) (a ∷ b ∷ c ∷ []) r.1.1.1.1.1.1.1.0 in
    record {
      input = input_from points faces r.0 r.1.0 r.1.1.0 r.1.1.1.0 r.1.1.1.1.0 r.1.1.1.1.1.0;
      applies = r.1.1.1.1.1.1.0;
      room_out_points = nltb→le a (3 * (P + 3 * F)) g.0;
      room_out_faces = nltb→le b (3 * F) g.1.0;
      room_work = nltb→le c (work_room P F) g.1.1.0;
    }
