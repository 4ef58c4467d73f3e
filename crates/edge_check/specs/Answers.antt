-- The words of this crate's contracts: what the edge check gives back, as the rules' outcome. Definitions only.
use Rattle.std.specs.Prelude.{◌≡◌, Result, Ok, Err, Bool, cond, List, [], ◌∷◌, ℕ, ◌+◌, ◌*◌, ◌/◌, ◌%◌, ◌^◌, ◌≤◌, ◌<◌, length, get_or, eqb}
use Rattle.rows.specs.Region.{Only, Holds, Filled}
use Rattle.rules.specs.Lists.{all, each}
use Rattle.rules.specs.Mesh.{faces_of, corners}
use Rattle.rules.specs.Pass5.{fans}
use Rattle.rules.specs.Edges as rule
use Rattle.rules.specs.Rooms.{work_room, Answer, accepted, refused, Outcome}
use Rattle.refuse.specs.Verdicts.{number_of, place_of}
use Rattle.refuse.specs.declared.Refusal.{Refusal}
use Rattle.flood.specs.Answers.{leader_of}
use Rattle.splitting.specs.Corners.{joined_at}

-- document 01's answer: 1 for yes and 0 for no, or a number and a place
abbrev pub answer_of : Result Bool Refusal → Answer
answer_of (Ok answer) = accepted (cond answer 1 0 ∷ [])
answer_of (Err r) = refused (number_of r) (place_of r)

-- with the work room as the call leaves it
abbrev pub outcome_of : Result Bool Refusal → List ℕ → Outcome (List ℕ)
outcome_of r work = record { answer = answer_of r; rooms = work }

-- With n = 3F: the first member of each corner's group stands in the n entries from 9n + 2 + P on, and the P entries behind them are zero.
pub record MetAsks (P : ℕ) (xs w : List ℕ) : Type 0 where
  pub whole : length xs % 3 ≡ 0
  pub few : length xs < 2 ^ 31
  pub fit : 10 * length xs + 2 + P + P ≤ length w
  pub inside : (i : ℕ) → i < length xs → get_or xs i 0 < P
  pub led : Holds (9 * length xs + 2 + P) (length xs) (leader_of (joined_at (faces_of xs)) (length xs)) w
  pub unmet : Filled (10 * length xs + 2 + P) P 0 w

-- whether each used point has one group, and nothing written outside those P entries
pub record MetGives (P : ℕ) (xs w w' : List ℕ) (answer : Bool) : Type 0 where
  pub only : Only (10 * length xs + 2 + P) P w w'
  pub says : answer ≡ all (λ v. eqb (length (fans (faces_of xs) v)) 1) (each corners (faces_of xs))

-- the same, and nothing written outside the stated work room
pub record GroupGives (P : ℕ) (xs w w' : List ℕ) (answer : Bool) : Type 0 where
  pub only : Only 0 (work_room P (length xs / 3)) w w'
  pub says : answer ≡ all (λ v. eqb (length (fans (faces_of xs) v)) 1) (each corners (faces_of xs))

-- the rules' answer of faces xs over P points, and nothing written outside the stated work room
pub record SoundGives (P : ℕ) (xs w w' : List ℕ) (answer : Bool) : Type 0 where
  pub only : Only 0 (work_room P (length xs / 3)) w w'
  pub says : answer ≡ rule.sound (faces_of xs)
