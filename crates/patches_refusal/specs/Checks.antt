-- The checks of the patch call with the rooms' lengths for the rooms, and what is known where they find nothing. Definitions only.
use Rattle.std.specs.Prelude.{◌≡◌, ◌⊎◌, ℕ, ◌*◌, ◌/◌, ◌≤◌, ◌<◌, List, [], ◌∷◌, ◌++◌, length, get_or, Float}
use Rattle.rules.specs.Refusal.{Check, no2, no6, no_patch, most_patches}
use Rattle.rules.specs.PatchesCall.{patches_rooms}
use Rattle.refuse.specs.Verdicts.{sizes, contents, labelling}
use Rattle.refuse.specs.Accepted.{Accepted}

-- the rules' `patches_check`
abbrev pub patches_list : List Float → List ℕ → List ℕ → ℕ → ℕ → ℕ → ℕ → ℕ → List Check
patches_list points faces labels C face_counts numbers flags work =
    sizes (length points) (length faces) ++ (no2 2 C most_patches ∷ []) ++ contents points faces
    ++ labelling C labels (length faces / 3)
    ++ (no6 (patches_rooms C) (face_counts ∷ numbers ∷ flags ∷ work ∷ []) ∷ [])

-- what an accepted call says of its input and of the lengths of its rooms
pub record PatchesAccepted (points : List Float) (faces labels : List ℕ) (C face_counts numbers flags work : ℕ) : Type 0 where
  pub input : Accepted points faces
  pub patches : C ≤ most_patches
  pub labelled : length labels ≡ length faces / 3
  pub known : (j : ℕ) → j < length labels → (get_or labels j 0 ≡ no_patch) ⊎ (get_or labels j 0 < C)
  pub room_face_counts : C ≤ face_counts
  pub room_numbers : 7 * C ≤ numbers
  pub room_flags : C ≤ flags
  pub room_work : 4 * C ≤ work
