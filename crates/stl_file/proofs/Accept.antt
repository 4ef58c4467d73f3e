-- What an accepted file says of itself and of the rooms. Assumes nothing.
use mathlib.Core.Path.{◌≡◌, refl}
use mathlib.Core.List.{List, [], ◌∷◌}
use Prim.Native.Nat.{ℕ, ◌+◌, ◌*◌, ◌≤◌}
use lib.ListN.{length, get_or}
use lib.Dec.{eqb, ltb, eqb→eq, nltb→le}
use Rattle.rules.specs.Lists.{below}
use Rattle.rules.specs.Refusal.{ok, decided, no6, most_faces}
use Rattle.rules.specs.Stl.{facets, no12, stl_rooms, StlRooms, stl_check}
use Rattle.rule_laws.proofs.Decided.{decided_all, unless_ok}
use Rattle.rule_laws.proofs.Firsts.{at_first_all}
use Rattle.refuse.proofs.Singles.{no2_fine}
use Rattle.stl_file.specs.Files.{StlAccepted, stl_list}

-- the list of checks is the rules'
pub stl_is : (file : List ℕ) (r : StlRooms) → decided (stl_list file (length r.points) (length r.faces) (length r.work)) ≡ stl_check file r
unfolding stl_check
stl_is file r = refl

-- where 12 finds nothing the length is right
long_fine : (file : List ℕ) → no12 file ≡ ok → length file ≡ 84 + 50 * facets file
unfolding no12
long_fine file e = eqb→eq (length file) (84 + 50 * facets file) (unless_ok 12 0 (eqb (length file) (84 + 50 * facets file)) e)

-- and where 6 does the rooms are long enough
rooms_fine : (F points faces work : ℕ) → no6 (stl_rooms F) (points ∷ faces ∷ work ∷ []) ≡ ok → (9 * F ≤ points) × (3 * F ≤ faces) × (64 * F + 64 ≤ work)
unfolding no6 stl_rooms below
rooms_fine F points faces work e =
    let a = at_first_all 6 (λ k. ltb (get_or (points ∷ faces ∷ work ∷ []) k 0) (get_or (9 * F ∷ 3 * F ∷ (64 * F + 64) ∷ []) k 0)) (0 ∷ 1 ∷ 2 ∷ []) e in
    (nltb→le points (9 * F) a.0, nltb→le faces (3 * F) a.1.0, nltb→le work (64 * F + 64) a.1.1.0)

-- all of it
pub stl_accepted : (file : List ℕ) (points faces work : ℕ) → decided (stl_list file points faces work) ≡ ok → StlAccepted file points faces work
stl_accepted file points faces work e =
    let a = decided_all (stl_list file points faces work) e in
    let r = rooms_fine (facets file) points faces work a.1.1.1.0 in
    record {
      whole = record { long = long_fine file a.0; counted = refl; few = no2_fine 1 (facets file) most_faces a.1.0 };
      domain = a.1.1.0;
      room_points = r.0;
      room_faces = r.1;
      room_work = r.2;
    }
