-- The call that writes a mending list: what it gives back and what each of its rooms then holds, for any input. Definitions only.
use Rattle.std.specs.Prelude.{ℕ, ◌/◌, List, [], ◌∷◌, length, Float}
use Rattle.rules.specs.Mesh.{points_of, faces_of}
use Rattle.rules.specs.Refusal.{Check, decided, no1, no2, no3_threshold, no3_options, no4, no5, no6, most_points, most_faces}
use Rattle.rules.specs.Rooms.{work_room, filled, cleared, Outcome, outcome}
use Rattle.rules.specs.Mending.{list_text}

-- the stated rooms for a text, P points and F faces: the text, as long as what is written; work
unfoldable pub list_rooms : List ℕ → ℕ → ℕ → List ℕ
list_rooms text P F = length text ∷ work_room P F ∷ []

-- the rooms lent to the call, in checking order
pub record ListRooms : Type 0 where
  pub text : List ℕ
  pub work : List ℕ

-- the refusal of the call: 1, 2, 3, 4, 5, 6
unfoldable pub list_check : List Float → List ℕ → Float → ℕ → ListRooms → Check
list_check points faces s options r =
    let P = length points / 3 in
    let F = length faces / 3 in
    decided
    (no1 0 (length points) ∷ no1 1 (length faces)
    ∷ no2 0 P most_points ∷ no2 1 F most_faces
    ∷ no3_threshold s ∷ no3_options options
    ∷ no4 (points_of points) ∷ no5 P (faces_of faces)
    ∷ no6 (list_rooms (list_text s options (points_of points) (faces_of faces)) P F) (length r.text ∷ length r.work ∷ []) ∷ [])

-- a whole call: the text fills its room, and what lies behind it is unchanged
unfoldable pub write_list : List Float → List ℕ → Float → ℕ → ListRooms → Outcome ListRooms
write_list points faces s options r =
    let text = list_text s options (points_of points) (faces_of faces) in
    outcome (list_check points faces s options r) r
    (length text ∷ [])
    (record { text = filled 0 (length text) text r.text; work = cleared (work_room (length points / 3) (length faces / 3)) r.work })
