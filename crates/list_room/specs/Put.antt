-- What the text of a mending list leaves in the rooms. Definitions only.
use Rattle.std.specs.Prelude.{◌≡◌, List, ℕ, ◌+◌, ◌*◌, ◌/◌, ◌≤◌, ◌<◌, length, Float}
use Rattle.rules.specs.Mesh.{points_of, faces_of}
use Rattle.rules.specs.Rooms.{work_room, filled, cleared}
use Rattle.rules.specs.Mending.{list_text}
use Rattle.list_room.specs.Parts.{joined, Changed}

-- the text
abbrev pub text_of : List Float → List ℕ → Float → ℕ → List ℕ
text_of points faces s options = list_text s options (points_of points) (faces_of faces)

-- what the text leaves in the rooms where it fits; where it does not, only the work room is changed, as far as it is stated
pub record PutGives (points : List Float) (faces : List ℕ) (s : Float) (options : ℕ) (text corners origins rest text' corners' origins' rest' : List ℕ) (r : ℕ) : Type 0 where
  pub long : r ≡ length (text_of points faces s options)
  pub written : r ≤ length text → text' ≡ filled 0 r (text_of points faces s options) text
  pub wiped : r ≤ length text → joined corners' origins' rest' ≡ cleared (work_room (length points / 3) (length faces / 3)) (joined corners origins rest)
  pub kept : length text < r → text' ≡ text
  pub long_text : length text' ≡ length text
  pub changed : Changed corners origins rest (16 * (length points / 3) + 60 * (length faces / 3) + 64) corners' origins' rest'
