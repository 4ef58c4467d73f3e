-- The words of this crate's contracts: what the call asks of itself on its way, and what it gives back as the rules' outcome. Definitions only.
use Rattle.std.specs.Prelude.{Result, Ok, Err, ◌≡◌, Bool, true, false, ◌⊎◌, List, [], ◌∷◌, ℕ, ◌/◌, ◌≤◌, ◌<◌, length, Float}
use Rattle.rules.specs.Refusal.{ok, decided}
use Rattle.rules.specs.Rooms.{Answer, accepted, refused, Outcome}
use Rattle.rules.specs.ListCall.{ListRooms, write_list}
use Rattle.list_refusal.specs.Checks.{input_list, Parted, Ready}
use Rattle.list_room.specs.Parts.{joined, Uniform}
use Rattle.list_room.specs.Put.{text_of}
use Rattle.refuse.specs.Verdicts.{number_of, place_of}
use Rattle.refuse.specs.declared.Refusal.{Refusal}

-- ---- on the way

-- the input is not refused
pub record LongAsks (points : List Float) (faces : List ℕ) (s : Float) (options : ℕ) : Type 0 where
  pub fine : decided (input_list points faces s options) ≡ ok

-- where the text is not found to be too long it fits, or the parts are all c
pub record LongTold (points : List Float) (faces : List ℕ) (s : Float) (options room : ℕ) (corners origins rest : List ℕ) (n c : ℕ) (r : Bool) : Type 0 where
  pub so : r ≡ true → room < length (text_of points faces s options)
  pub not_so : r ≡ false → (length (text_of points faces s options) ≤ room) ⊎ Uniform corners origins rest n c

-- ---- the call

-- the two rooms, in checking order
abbrev pub rooms_of : List ℕ → List ℕ → ListRooms
rooms_of text work = record { text = text; work = work }

-- document 01's answer: how many bytes the text has, or a number and a place
abbrev pub answer_of : Result ℕ Refusal → Answer
answer_of (Ok n) = accepted (n ∷ [])
answer_of (Err r) = refused (number_of r) (place_of r)

-- with the rooms as the call leaves them
abbrev pub outcome_of : Result ℕ Refusal → List ℕ → List ℕ → Outcome ListRooms
outcome_of r text work = record { answer = answer_of r; rooms = rooms_of text work }

-- the input is accepted, and the parts are ready
pub record ThereAsks (points : List Float) (faces : List ℕ) (s : Float) (options : ℕ) (corners origins rest : List ℕ) : Type 0 where
  pub asks : LongAsks points faces s options
  pub ready : Ready (length points / 3) (length faces / 3) (length corners) (length origins) (length rest)

-- the rules' outcome, of the parts as one room
abbrev pub ThereGives : List Float → List ℕ → Float → ℕ → List ℕ → List ℕ → List ℕ → List ℕ → List ℕ → List ℕ → List ℕ → List ℕ → Result ℕ Refusal → Type 0
ThereGives points faces s options text corners origins rest text' corners' origins' rest' r =
    outcome_of r text' (joined corners' origins' rest') ≡ write_list points faces s options (rooms_of text (joined corners origins rest))

-- the parts are as they were
pub record Kept (text corners origins rest text' corners' origins' rest' : List ℕ) : Type 0 where
  pub text_is : text' ≡ text
  pub corners_are : corners' ≡ corners
  pub origins_are : origins' ≡ origins
  pub rest_is : rest' ≡ rest

-- Where the parts are those of one work room, answer and rooms are what the rules say of that room. Where they are not, the answer is what the rules say of a work
-- room of no entries, and nothing is changed.
pub record ListGives (points : List Float) (faces : List ℕ) (s : Float) (options : ℕ) (text corners origins rest text' corners' origins' rest' : List ℕ) (r : Result ℕ Refusal) : Type 0 where
  pub parted : Parted (length faces / 3) (length corners) (length origins) (length rest) → ThereGives points faces s options text corners origins rest text' corners' origins' rest' r
  pub apart : (Parted (length faces / 3) (length corners) (length origins) (length rest) → ⊥) → outcome_of r text' [] ≡ write_list points faces s options (rooms_of text [])
  pub apart_kept : (Parted (length faces / 3) (length corners) (length origins) (length rest) → ⊥) → Kept text corners origins rest text' corners' origins' rest'
