-- The place of a refusal to read, to write or to count a PLY file is below 2^32. Assumes nothing.
use mathlib.Core.Path.{◌≡◌}
use mathlib.Core.List.{List, [], ◌∷◌}
use Prim.Native.Nat.{ℕ, ◌/◌, ◌≤◌, ◌<◌, ◌^◌}
use native.Mathlib.Omega.{arith}
use lib.ListN.{length}
use lib.Ieee.{Float}
use Rattle.rules.specs.Lists.{below}
use Rattle.rules.specs.Refusal.{Check, decided, no2, no4, no5, most_points, most_faces}
use Rattle.rules.specs.Rooms.{refused}
use Rattle.rules.specs.Ply.{vertices_in, faces_in_is, points_of_bytes, triples_of, no13, no14}
use Rattle.rules.specs.Calls.{read_ply_rooms, ReadPlyRooms, read_ply_check, read_ply, write_ply_rooms, WritePlyRooms, write_ply_check, write_ply, ply_counts_check, ply_counts}
use Rattle.rule_laws.proofs.Lists.{length_below}
use Rattle.refuse.proofs.Singles.{no2_fine}
use Rattle.ply_file.proofs.Scanning.{length_points, length_triples}
use Rattle.place_laws.proofs.Places.{Near, unless_near, at_first_near, no6_near, input_near, step, end}
use Rattle.place_laws.proofs.Outcomes.{outcome_near, refused_near}

-- 13 and 2 have the places 0 and 1, and after 2 the counts are not too large
opening_near :
    (file : List ℕ) (rest : List Check) → (vertices_in file ≤ most_points → faces_in_is file ≤ most_faces → Near (decided rest))
    → Near (decided (no13 file ∷ no2 0 (vertices_in file) most_points ∷ no2 1 (faces_in_is file) most_faces ∷ rest))
unfolding no13 no2
opening_near file rest h =
    step _ _ (unless_near 13 0 _ (omega arith))
    (λ _. step _ _ (unless_near 2 0 _ (omega arith))
    (λ p. step _ _ (unless_near 2 1 _ (omega arith))
    (λ f. h (no2_fine 0 (vertices_in file) most_points p) (no2_fine 1 (faces_in_is file) most_faces f))))

-- of reading: a vertex or a face of the file, or a room
read_near : (file : List ℕ) (r : ReadPlyRooms) → Near (read_ply_check file r)
unfolding read_ply_check read_ply_rooms no14 no4 no5
read_near file r =
    opening_near file _
    (λ p f. step _ _ (at_first_near 14 _ (below (faces_in_is file)) (omega (arith, length_below (faces_in_is file))))
    (λ _. step _ _ (at_first_near 4 _ (points_of_bytes file) (omega (arith, length_points file)))
    (λ _. step _ _ (at_first_near 5 _ (triples_of file) (omega (arith, length_triples file)))
    (λ _. step _ _ (no6_near (read_ply_rooms (vertices_in file) (faces_in_is file)) _ (omega arith)) (λ _. end)))))

-- so its place fits C's struct
pub read_ply_place : (file : List ℕ) (r : ReadPlyRooms) {n p : ℕ} {rooms : ReadPlyRooms} → record { answer = refused n p; rooms = rooms } ≡ read_ply file r → p < 2 ^ 32
unfolding read_ply
read_ply_place file r e = refused_near (outcome_near (read_ply_check file r) _ _ _ (read_near file r)) e

-- of writing: as of the edge call, up to the rooms
write_near : (points : List Float) (faces : List ℕ) (r : WritePlyRooms) → Near (write_ply_check points faces r)
unfolding write_ply_check write_ply_rooms
write_near points faces r =
    input_near points faces _ (λ p f. step _ _ (no6_near (write_ply_rooms (length points / 3) (length faces / 3)) _ (omega arith)) (λ _. end))

-- so its place fits too
pub write_ply_place :
    (points : List Float) (faces : List ℕ) (r : WritePlyRooms) {n p : ℕ} {rooms : WritePlyRooms}
    → record { answer = refused n p; rooms = rooms } ≡ write_ply points faces r → p < 2 ^ 32
unfolding write_ply
write_ply_place points faces r e = refused_near (outcome_near (write_ply_check points faces r) _ _ _ (write_near points faces r)) e

-- of the counts
counts_near : (file : List ℕ) → Near (ply_counts_check file)
unfolding ply_counts_check
counts_near file = opening_near file [] (λ p f. end)

-- and so does theirs
pub ply_counts_place : (file : List ℕ) {n p : ℕ} → record { answer = refused n p; rooms = tt } ≡ ply_counts file → p < 2 ^ 32
unfolding ply_counts
ply_counts_place file e = refused_near (outcome_near (ply_counts_check file) _ _ _ (counts_near file)) e
