-- The checks of the loop call up to 6 with the rooms' lengths for the rooms, and what is known where they find nothing. Definitions only.
use Rattle.std.specs.Prelude.{ℕ, ◌*◌, ◌/◌, ◌≤◌, List, [], ◌∷◌, ◌++◌, length, Float}
use Rattle.rules.specs.Refusal.{Check, no6}
use Rattle.rules.specs.Rooms.{work_room}
use Rattle.rules.specs.LoopsCall.{loops_rooms}
use Rattle.refuse.specs.Verdicts.{sizes, contents}
use Rattle.refuse.specs.Accepted.{Accepted}

-- the rules' `loops_check` up to 6; 7 and 8 follow
abbrev pub loops_list : List Float → List ℕ → ℕ → ℕ → ℕ → List Check
loops_list points faces loop_vertices loop_ends work =
    sizes (length points) (length faces) ++ contents points faces
    ++ (no6 (loops_rooms (length points / 3) (length faces / 3)) (loop_vertices ∷ loop_ends ∷ work ∷ []) ∷ [])

-- what is known of the input and of the lengths of the rooms where 1 to 6 find nothing
pub record LoopsAccepted (points : List Float) (faces : List ℕ) (loop_vertices loop_ends work : ℕ) : Type 0 where
  pub input : Accepted points faces
  pub room_loop_vertices : 3 * (length faces / 3) ≤ loop_vertices
  pub room_loop_ends : 3 * (length faces / 3) ≤ loop_ends
  pub room_work : work_room (length points / 3) (length faces / 3) ≤ work
