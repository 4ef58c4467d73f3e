-- What an accepted patch call says of its input and of its rooms. Assumes nothing.
use mathlib.Core.Path.{◌≡◌, refl}
use mathlib.Core.List.{List, [], ◌∷◌}
use Prim.Native.Nat.{ℕ, ◌*◌, ◌/◌}
use lib.ListN.{length}
use lib.Dec.{nltb→le}
use lib.Ieee.{Float}
use Rattle.rules.specs.Lists.{below}
use Rattle.rules.specs.Refusal.{ok, decided, most_patches}
use Rattle.rules.specs.PatchesCall.{patches_rooms, PatchesRooms, patches_check}
use Rattle.rule_laws.proofs.Decided.{decided_all}
use Rattle.refuse.proofs.Singles.{no2_fine}
use Rattle.refuse.proofs.Accept.{input_from, known_fine, labels_fine, rooms_fine}
use Rattle.patches_refusal.specs.Checks.{patches_list, PatchesAccepted}

-- the list of checks is the rules', at the lengths of the rooms
pub patches_is :
    (points : List Float) (faces labels : List ℕ) (C : ℕ) (r : PatchesRooms)
    → decided (patches_list points faces labels C (length r.face_counts) (length r.numbers) (length r.flags) (length r.work))
    ≡ patches_check points faces labels C r
unfolding patches_check
patches_is points faces labels C r = refl

-- where it finds nothing the input is good and the rooms are long enough
pub patches_accepted :
    (points : List Float) (faces labels : List ℕ) (C a b c d : ℕ) → decided (patches_list points faces labels C a b c d) ≡ ok
    → PatchesAccepted points faces labels C a b c d
unfolding below patches_rooms
patches_accepted points faces labels C a b c d h =
    let r = decided_all (patches_list points faces labels C a b c d) h in
    let g = rooms_fine (patches_rooms C) (a ∷ b ∷ c ∷ d ∷ []) r.1.1.1.1.1.1.1.1.1.0 in
    record {
      input = input_from points faces r.0 r.1.0 r.1.1.0 r.1.1.1.0 r.1.1.1.1.1.0 r.1.1.1.1.1.1.0;
      patches = no2_fine 2 C most_patches r.1.1.1.1.0;
      labelled = labels_fine (length faces / 3) labels r.1.1.1.1.1.1.1.1.0;
      known = known_fine C labels r.1.1.1.1.1.1.1.0;
      room_face_counts = nltb→le a C g.0;
      room_numbers = nltb→le b (7 * C) g.1.0;
      room_flags = nltb→le c C g.1.1.0;
      room_work = nltb→le d (4 * C) g.1.1.1.0;
    }
