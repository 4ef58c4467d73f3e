-- The words of this crate's contracts: what the repair of many meshes gives back, as the rules' outcome. Definitions only.
use Rattle.std.specs.Prelude.{Result, Ok, Err, List, [], ◌∷◌, ℕ, Float}
use Rattle.rules.specs.Rooms.{Answer, accepted, refused, Outcome}
use Rattle.rules.specs.PanelCall.{PanelRooms}
use Rattle.refuse.specs.Verdicts.{number_of, place_of}
use Rattle.refuse.specs.declared.Refusal.{Refusal}
use Rattle.repair_panel.specs.declared.Packed.{Packed}

-- the six rooms, in checking order
abbrev pub rooms_of : List Float → List ℕ → List ℕ → List ℕ → List ℕ → List ℕ → PanelRooms
rooms_of points faces report origins meshes work =
    record { out_points = points; out_faces = faces; report = report; origins = origins; meshes = meshes; work = work }

-- the rules' answer: how many entries stand in each answer room, or a number and a place
abbrev pub answer_of : Result Packed Refusal → Answer
answer_of (Ok r) = accepted (r.points ∷ r.faces ∷ r.counts ∷ r.origins ∷ r.meshes ∷ [])
answer_of (Err r) = refused (number_of r) (place_of r)

-- with the rooms as the call leaves them
abbrev pub outcome_of : Result Packed Refusal → List Float → List ℕ → List ℕ → List ℕ → List ℕ → List ℕ → Outcome PanelRooms
outcome_of r points faces report origins meshes work = record { answer = answer_of r; rooms = rooms_of points faces report origins meshes work }
