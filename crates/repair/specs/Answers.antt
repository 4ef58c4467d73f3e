-- The words of this crate's contracts: what a repair gives back, as the rules' outcome. Definitions only.
use Rattle.std.specs.Prelude.{◌≡◌, Result, Ok, Err, List, [], ◌∷◌, ℕ, ◌^◌, ◌≤◌, length, take, Float}
use Rattle.rows.specs.Region.{Only}
use Rattle.rules.specs.State.{report_counts}
use Rattle.rules.specs.RepairCall.{RepairRooms}
use Rattle.rules.specs.Rooms.{Answer, accepted, refused, Outcome}
use Rattle.refuse.specs.Verdicts.{number_of, place_of}
use Rattle.refuse.specs.declared.Refusal.{Refusal}
use Rattle.lending.specs.Reports.{counts_of, CountsBelow}
use Rattle.lending.specs.declared.Report.{Report}
use Rattle.repair.specs.declared.Repaired.{Repaired}

-- the five rooms, in checking order
abbrev pub rooms_of : List Float → List ℕ → List ℕ → List ℕ → List ℕ → RepairRooms
rooms_of points faces report origins work = record { out_points = points; out_faces = faces; report = report; origins = origins; work = work }

-- document 01's answer: how many entries stand in each answer room, or a number and a place
abbrev pub answer_of : Result Repaired Refusal → Answer
answer_of (Ok r) = accepted (r.points ∷ r.faces ∷ report_counts ∷ r.origins ∷ [])
answer_of (Err r) = refused (number_of r) (place_of r)

-- with the rooms as the call leaves them
abbrev pub outcome_of : Result Repaired Refusal → List Float → List ℕ → List ℕ → List ℕ → List ℕ → Outcome RepairRooms
outcome_of r points faces report origins work = record { answer = answer_of r; rooms = rooms_of points faces report origins work }

-- a room for the counts, which are numbers of 32 bits
pub record ReportAsks (r : List ℕ) (counts : Report) : Type 0 where
  pub room : report_counts ≤ length r
  pub few : CountsBelow (2 ^ 32) counts

-- they stand at its front
pub record ReportGives (r : List ℕ) (counts : Report) (r' : List ℕ) : Type 0 where
  pub only : Only 0 report_counts r r'
  pub written : take report_counts r' ≡ counts_of counts
