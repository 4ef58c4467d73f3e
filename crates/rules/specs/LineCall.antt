-- The report line: what it gives back and what its one room, the line, then holds, for any input. Definitions only.
use Rattle.std.specs.Prelude.{ℕ, List, [], ◌∷◌, length}
use Rattle.rules.specs.Line.{line}
use Rattle.rules.specs.Refusal.{Check, decided, no1_counts, no6}
use Rattle.rules.specs.Rooms.{filled, Outcome, outcome}

-- the stated room: 512 bytes
unfoldable pub line_rooms : List ℕ
line_rooms = 512 ∷ []

-- the refusal of a report line: 1, 6
unfoldable pub line_check : List ℕ → List ℕ → Check
line_check counts r = decided (no1_counts counts ∷ no6 line_rooms (length r ∷ []) ∷ [])

-- a whole report line
unfoldable pub write_line : List ℕ → List ℕ → Outcome (List ℕ)
write_line counts r =
    outcome (line_check counts r) r
    (length (line counts) ∷ [])
    (filled 0 512 (line counts) r)
