-- The words of this crate's contracts: what reading gives back, as the rules' outcome. Definitions only.
use Rattle.std.specs.Prelude.{Result, Ok, Err, List, [], ◌∷◌, ℕ, Float}
use Rattle.rules.specs.Rooms.{Answer, accepted, refused, Outcome}
use Rattle.rules.specs.ReadPlyCall.{ReadPlyRooms}
use Rattle.refuse.specs.declared.Refusal.{Refusal}
use Rattle.refuse.specs.Verdicts.{number_of, place_of}
use Rattle.read_ply.specs.declared.Read.{Read}

-- the three rooms, in checking order
abbrev pub rooms_of : List Float → List ℕ → List ℕ → ReadPlyRooms
rooms_of points faces work = record { points = points; faces = faces; work = work }

-- document 01's answer: how many entries stand in each answer room, or a number and a place
abbrev pub answer_of : Result Read Refusal → Answer
answer_of (Ok r) = accepted (r.points ∷ r.faces ∷ [])
answer_of (Err e) = refused (number_of e) (place_of e)

-- with the rooms as the call leaves them
abbrev pub outcome_of : Result Read Refusal → List Float → List ℕ → List ℕ → Outcome ReadPlyRooms
outcome_of r points faces work = record { answer = answer_of r; rooms = rooms_of points faces work }
