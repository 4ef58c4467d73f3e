-- The checks of the edge check with the work room's length for the room, and what is known where they find nothing. Definitions only.
use Rattle.std.specs.Prelude.{ℕ, ◌/◌, ◌≤◌, List, [], ◌∷◌, ◌++◌, length}
use Rattle.rules.specs.Mesh.{faces_of}
use Rattle.rules.specs.Refusal.{Check, no1, no5, no6}
use Rattle.rules.specs.Rooms.{work_room}
use Rattle.rules.specs.CheckCall.{check_rooms}
use Rattle.refuse.specs.Verdicts.{counts}
use Rattle.refuse.specs.Accepted.{Faces}

-- the rules' `check_check`
abbrev pub check_list : ℕ → List ℕ → ℕ → List Check
check_list P faces work =
    (no1 1 (length faces) ∷ counts P (length faces / 3)) ++ (no5 P (faces_of faces) ∷ no6 (check_rooms P (length faces / 3)) (work ∷ []) ∷ [])

-- what an accepted edge check says of its input and of the length of its room
pub record CheckAccepted (P : ℕ) (faces : List ℕ) (work : ℕ) : Type 0 where
  pub input : Faces P faces
  pub room_work : work_room P (length faces / 3) ≤ work
