-- The checks of a repair with the rooms' lengths for the rooms, and what is known where they find nothing. Definitions only.
use Rattle.std.specs.Prelude.{ℕ, ◌+◌, ◌*◌, ◌/◌, ◌≤◌, List, [], ◌∷◌, ◌++◌, length, Float}
use Rattle.rules.specs.State.{report_counts}
use Rattle.rules.specs.Refusal.{Check, no6}
use Rattle.rules.specs.Rooms.{work_room}
use Rattle.rules.specs.RepairCall.{repair_rooms}
use Rattle.refuse.specs.Verdicts.{sizes, settings, contents}
use Rattle.refuse.specs.Accepted.{Accepted}

-- the rules' `repair_check`
abbrev pub repair_list : List Float → List ℕ → Float → ℕ → ℕ → ℕ → ℕ → ℕ → ℕ → List Check
repair_list points faces s options out_points out_faces report origins work =
    sizes (length points) (length faces) ++ settings s options ++ contents points faces
    ++ (no6 (repair_rooms (length points / 3) (length faces / 3)) (out_points ∷ out_faces ∷ report ∷ origins ∷ work ∷ []) ∷ [])

-- what an accepted repair says of its input and of the lengths of its rooms
pub record RepairAccepted (points : List Float) (faces : List ℕ) (options out_points out_faces report origins work : ℕ) : Type 0 where
  pub input : Accepted points faces
  pub settings : options ≤ 63
  pub room_out_points : 3 * (length points / 3 + 3 * (length faces / 3)) ≤ out_points
  pub room_out_faces : 3 * (length faces / 3) ≤ out_faces
  pub room_report : report_counts ≤ report
  pub room_origins : length faces / 3 ≤ origins
  pub room_work : work_room (length points / 3) (length faces / 3) ≤ work
