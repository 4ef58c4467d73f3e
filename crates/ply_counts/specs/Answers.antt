-- The words of this crate's contract: what the call gives back, as the rules' outcome. Definitions only.
use Rattle.std.specs.Prelude.{Result, Ok, Err, [], ◌∷◌}
use Rattle.rules.specs.Rooms.{Answer, accepted, refused, Outcome}
use Rattle.refuse.specs.declared.Refusal.{Refusal}
use Rattle.refuse.specs.Verdicts.{number_of, place_of}
use Rattle.ply_counts.specs.declared.Counted.{Counted}

-- document 01's answer: P and F, or a number and a place
abbrev pub answer_of : Result Counted Refusal → Answer
answer_of (Ok r) = accepted (r.points ∷ r.faces ∷ [])
answer_of (Err e) = refused (number_of e) (place_of e)

-- the call has no room
abbrev pub outcome_of : Result Counted Refusal → Outcome (Unit {0})
outcome_of r = record { answer = answer_of r; rooms = tt }
