-- The checks of the call that applies a mending list with the rooms' lengths for the rooms, and what is known where they find nothing. Definitions only.
use Rattle.std.specs.Prelude.{◌≡◌, ℕ, ◌+◌, ◌*◌, ◌/◌, ◌≤◌, List, [], ◌∷◌, ◌++◌, length, Float}
use Rattle.rules.specs.Mesh.{points_of, faces_of}
use Rattle.rules.specs.Refusal.{Check, ok, no6}
use Rattle.rules.specs.Rooms.{work_room}
use Rattle.rules.specs.Applying.{no15}
use Rattle.rules.specs.ApplyCall.{apply_rooms}
use Rattle.refuse.specs.Verdicts.{sizes, contents}
use Rattle.refuse.specs.Accepted.{Accepted}

-- the rules' `apply_check`
abbrev pub apply_checks : List Float → List ℕ → List ℕ → ℕ → ℕ → ℕ → List Check
apply_checks points faces text out_points out_faces work =
    sizes (length points) (length faces) ++ contents points faces ++ (no15 (points_of points) (faces_of faces) text ∷ [])
    ++ (no6 (apply_rooms (length points / 3) (length faces / 3)) (out_points ∷ out_faces ∷ work ∷ []) ∷ [])

-- what an accepted call says of its input, of the list and of the lengths of its rooms
pub record ApplyAccepted (points : List Float) (faces text : List ℕ) (out_points out_faces work : ℕ) : Type 0 where
  pub input : Accepted points faces
  pub applies : no15 (points_of points) (faces_of faces) text ≡ ok
  pub room_out_points : 3 * (length points / 3 + 3 * (length faces / 3)) ≤ out_points
  pub room_out_faces : 3 * (length faces / 3) ≤ out_faces
  pub room_work : work_room (length points / 3) (length faces / 3) ≤ work
