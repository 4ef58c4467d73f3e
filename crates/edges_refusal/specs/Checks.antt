-- The checks of the edge call up to 6 with the rooms' lengths for the rooms, and what is known where they find nothing. Definitions only.
use Rattle.std.specs.Prelude.{ℕ, ◌*◌, ◌/◌, ◌≤◌, List, [], ◌∷◌, ◌++◌, length, Float}
use Rattle.rules.specs.Refusal.{Check, no6}
use Rattle.rules.specs.Rooms.{work_room}
use Rattle.rules.specs.EdgesCall.{edges_rooms}
use Rattle.refuse.specs.Verdicts.{sizes, contents}
use Rattle.refuse.specs.Accepted.{Accepted}

-- the rules' `edges_check` up to 6; 7 follows
abbrev pub edges_list : List Float → List ℕ → ℕ → ℕ → ℕ → ℕ → List Check
edges_list points faces edges lengths face_edges work =
    sizes (length points) (length faces) ++ contents points faces
    ++ (no6 (edges_rooms (length points / 3) (length faces / 3)) (edges ∷ lengths ∷ face_edges ∷ work ∷ []) ∷ [])

-- what is known of the input and of the lengths of the rooms where 1 to 6 find nothing
pub record EdgesAccepted (points : List Float) (faces : List ℕ) (edges lengths face_edges work : ℕ) : Type 0 where
  pub input : Accepted points faces
  pub room_edges : 6 * (length faces / 3) ≤ edges
  pub room_lengths : 3 * (length faces / 3) ≤ lengths
  pub room_face_edges : 3 * (length faces / 3) ≤ face_edges
  pub room_work : work_room (length points / 3) (length faces / 3) ≤ work
