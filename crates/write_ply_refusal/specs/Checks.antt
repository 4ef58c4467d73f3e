-- The checks of writing with the rooms' lengths for the rooms, and what is known where they find nothing. Definitions only.
use Rattle.std.specs.Prelude.{◌≡◌, List, [], ◌∷◌, ◌++◌, ℕ, ◌+◌, ◌*◌, ◌/◌, ◌≤◌, length, Float}
use Rattle.rules.specs.Refusal.{Check, no6}
use Rattle.rules.specs.Rooms.{work_room}
use Rattle.rules.specs.Line.{plain}
use Rattle.rules.specs.Ply.{header}
use Rattle.rules.specs.WritePlyCall.{write_ply_rooms}
use Rattle.refuse.specs.Verdicts.{sizes, contents}
use Rattle.refuse.specs.Accepted.{Accepted}

-- a count has r digits, at most seven
pub record Digits (n r : ℕ) : Type 0 where
  pub long : r ≡ length (plain n)
  pub few : r ≤ 7

-- the rules' `write_ply_check`
abbrev pub write_ply_list : List Float → List ℕ → ℕ → ℕ → List Check
write_ply_list points faces file work =
    sizes (length points) (length faces) ++ contents points faces
    ++ (no6 (write_ply_rooms (length points / 3) (length faces / 3)) (file ∷ work ∷ []) ∷ [])

-- what is known of the input and of the lengths of the rooms where nothing is refused
pub record WritePlyAccepted (points : List Float) (faces : List ℕ) (file work : ℕ) : Type 0 where
  pub input : Accepted points faces
  pub room_file : length (header (length points / 3) (length faces / 3)) + 24 * (length points / 3) + 13 * (length faces / 3) ≤ file
  pub room_work : work_room (length points / 3) (length faces / 3) ≤ work
