-- The checks of the report line with the room's length for the room, and what is known where they find nothing. Definitions only.
use Rattle.std.specs.Prelude.{◌≡◌, ℕ, ◌≤◌, List, [], ◌∷◌, length}
use Rattle.rules.specs.State.{report_counts}
use Rattle.rules.specs.Refusal.{Check, no1_counts, no6}
use Rattle.rules.specs.LineCall.{line_rooms}

-- the rules' `line_check`
abbrev pub line_list : List ℕ → ℕ → List Check
line_list counts line = no1_counts counts ∷ no6 line_rooms (line ∷ []) ∷ []

-- what an accepted call says of its counts and of the length of its room
pub record LineAccepted (counts : List ℕ) (line : ℕ) : Type 0 where
  pub whole : length counts ≡ report_counts
  pub room_line : 512 ≤ line
