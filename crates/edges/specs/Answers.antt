-- What the edge call gives back, as the rules' outcome. Definitions only.
use Rattle.std.specs.Prelude.{Result, Ok, Err, List, [], ◌∷◌, ℕ, Float}
use Rattle.rules.specs.Rooms.{Answer, accepted, refused, Outcome}
use Rattle.rules.specs.EdgesCall.{EdgesRooms}
use Rattle.refuse.specs.Verdicts.{number_of, place_of}
use Rattle.refuse.specs.declared.Refusal.{Refusal}
use Rattle.edges.specs.declared.Found.{Found}

-- the rules' answer: how many entries stand in each room, or a number and a place
abbrev pub answer_of : Result Found Refusal → Answer
answer_of (Ok r) = accepted (r.edges ∷ r.lengths ∷ r.face_edges ∷ [])
answer_of (Err e) = refused (number_of e) (place_of e)

-- the rooms lent to the call, in their order
abbrev pub rooms_of : List ℕ → List Float → List ℕ → List ℕ → EdgesRooms
rooms_of edges lengths face_edges work = record { edges = edges; lengths = lengths; face_edges = face_edges; work = work }

-- the answer, with the rooms as the call leaves them
abbrev pub outcome_of : Result Found Refusal → EdgesRooms → Outcome EdgesRooms
outcome_of r rooms = record { answer = answer_of r; rooms = rooms }
