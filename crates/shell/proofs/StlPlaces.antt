-- The place of a refusal to read a file is below 2^32. Assumes nothing.
use mathlib.Core.Path.{◌≡◌}
use mathlib.Core.List.{List}
use Prim.Native.Nat.{ℕ, ◌<◌, ◌^◌}
use native.Mathlib.Omega.{arith}
use Rattle.rules.specs.Refusal.{no2, no4, most_faces}
use Rattle.rules.specs.Rooms.{refused}
use Rattle.rules.specs.Stl.{facets, corners_of, no12, stl_rooms, StlRooms, stl_check, read_stl}
use Rattle.refuse.proofs.Singles.{no2_fine}
use Rattle.stl_file.proofs.Scanning.{length_corners}
use Rattle.place_laws.proofs.Places.{Near, unless_near, at_first_near, no6_near, step, end}
use Rattle.place_laws.proofs.Outcomes.{outcome_near, refused_near}

-- 2 comes before 4, so there are not too many corners
stl_near : (file : List ℕ) (r : StlRooms) → Near (stl_check file r)
unfolding stl_check stl_rooms no12 no2 no4
stl_near file r =
    step _ _ (unless_near 12 0 _ (omega arith))
    (λ _. step _ _ (unless_near 2 1 _ (omega arith))
    (λ f. step _ _ (at_first_near 4 _ (corners_of file) (omega (arith, no2_fine 1 (facets file) most_faces f, length_corners file)))
    (λ _. step _ _ (no6_near (stl_rooms (facets file)) _ (omega arith))
    (λ _. end))))

-- so its place fits C's struct
pub stl_place : (file : List ℕ) (r : StlRooms) {n p : ℕ} {rooms : StlRooms} → record { answer = refused n p; rooms = rooms } ≡ read_stl file r → p < 2 ^ 32
unfolding read_stl
stl_place file r e = refused_near (outcome_near (stl_check file r) _ _ _ (stl_near file r)) e
