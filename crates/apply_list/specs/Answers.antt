-- The words of this crate's contract: what the call that applies a mending list gives back, as the rules' outcome. Definitions only.
use Rattle.std.specs.Prelude.{Result, Ok, Err, List, [], ◌∷◌, ℕ, Float}
use Rattle.rules.specs.ApplyCall.{ApplyRooms}
use Rattle.rules.specs.Rooms.{Answer, accepted, refused, Outcome}
use Rattle.refuse.specs.Verdicts.{number_of, place_of}
use Rattle.refuse.specs.declared.Refusal.{Refusal}
use Rattle.apply_list.specs.declared.Applied.{Applied}

-- the three rooms, in checking order
abbrev pub rooms_of : List Float → List ℕ → List ℕ → ApplyRooms
rooms_of points faces work = record { out_points = points; out_faces = faces; work = work }

-- how many entries stand in each answer room, or a number and a place
abbrev pub answer_of : Result Applied Refusal → Answer
answer_of (Ok r) = accepted (r.points ∷ r.faces ∷ [])
answer_of (Err r) = refused (number_of r) (place_of r)

-- with the rooms as the call leaves them
abbrev pub outcome_of : Result Applied Refusal → List Float → List ℕ → List ℕ → Outcome ApplyRooms
outcome_of r points faces work = record { answer = answer_of r; rooms = rooms_of points faces work }
