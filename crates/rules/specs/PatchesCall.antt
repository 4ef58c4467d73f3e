-- The patch call: what it gives back and what each of its rooms then holds, for any input. Definitions only.
use Rattle.std.specs.Prelude.{ℕ, ◌*◌, ◌/◌, List, [], ◌∷◌, length, Float}
use Rattle.rules.specs.Lists.{each}
use Rattle.rules.specs.Mesh.{points_of, faces_of, zero64}
use Rattle.rules.specs.Patches.{Filter, patches, face_counts, seven, flags}
use Rattle.rules.specs.Refusal.{Check, decided, no1, no2, no4, no5, no6, no9, no10, most_points, most_faces, most_patches}
use Rattle.rules.specs.Rooms.{filled, cleared, Outcome, outcome}

-- the stated rooms for C patches: face counts C, numbers 7C, flags C, work 4C
unfoldable pub patches_rooms : ℕ → List ℕ
patches_rooms C = C ∷ 7 * C ∷ C ∷ 4 * C ∷ []

-- the rooms lent to the patch call, in checking order
pub record PatchesRooms : Type 0 where
  pub face_counts : List ℕ
  pub numbers : List Float
  pub flags : List ℕ
  pub work : List ℕ

-- the refusal of the patch call: 1, 2, 4, 5, 9, 10, 6
unfoldable pub patches_check : List Float → List ℕ → List ℕ → ℕ → PatchesRooms → Check
patches_check points faces labels C r =
    let P = length points / 3 in
    let F = length faces / 3 in
    decided
    (no1 0 (length points) ∷ no1 1 (length faces)
    ∷ no2 0 P most_points ∷ no2 1 F most_faces ∷ no2 2 C most_patches
    ∷ no4 (points_of points) ∷ no5 P (faces_of faces)
    ∷ no9 C labels ∷ no10 F labels
    ∷ no6 (patches_rooms C) (length r.face_counts ∷ length r.numbers ∷ length r.flags ∷ length r.work ∷ []) ∷ [])

-- a whole patch call, for C patches and a filter
unfoldable pub find_patches : List Float → List ℕ → List ℕ → ℕ → Filter → PatchesRooms → Outcome PatchesRooms
find_patches points faces labels C by r =
    let rs = patches (points_of points) (faces_of faces) labels C in
    outcome (patches_check points faces labels C r) r
    (C ∷ 7 * C ∷ C ∷ [])
    (record {
      face_counts = filled 0 C (face_counts labels C) r.face_counts;
      numbers = filled zero64 (7 * C) (each seven rs) r.numbers;
      flags = filled 0 C (flags by (face_counts labels C) rs) r.flags;
      work = cleared (4 * C) r.work;
    })
