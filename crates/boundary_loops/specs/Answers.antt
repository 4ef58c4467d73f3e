-- What the loop call gives back, as the rules' outcome. Definitions only.
use Rattle.std.specs.Prelude.{Result, Ok, Err, List, [], ◌∷◌, ℕ}
use Rattle.rules.specs.Rooms.{Answer, accepted, refused, Outcome}
use Rattle.rules.specs.LoopsCall.{LoopsRooms}
use Rattle.refuse.specs.Verdicts.{number_of, place_of}
use Rattle.refuse.specs.declared.Refusal.{Refusal}
use Rattle.loops.specs.declared.Loops.{Loops}

-- the rules' answer: how many entries stand in each room, or a number and a place
abbrev pub answer_of : Result Loops Refusal → Answer
answer_of (Ok r) = accepted (r.loop_vertices ∷ r.loop_ends ∷ [])
answer_of (Err e) = refused (number_of e) (place_of e)

-- the rooms lent to the call, in their order
abbrev pub rooms_of : List ℕ → List ℕ → List ℕ → LoopsRooms
rooms_of loop_vertices loop_ends work = record { loop_vertices = loop_vertices; loop_ends = loop_ends; work = work }

-- the answer, with the rooms as the call leaves them
abbrev pub outcome_of : Result Loops Refusal → LoopsRooms → Outcome LoopsRooms
outcome_of r rooms = record { answer = answer_of r; rooms = rooms }
