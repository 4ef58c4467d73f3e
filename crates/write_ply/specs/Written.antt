-- The words of this crate's contracts: what is put into the file, and what writing gives back as the rules' outcome. Definitions only.
use Rattle.std.specs.Prelude.{not, Result, Ok, Err, List, [], ◌∷◌, ℕ, ◌+◌, ◌*◌, ◌/◌, ◌≤◌, ◌<◌, T, Float, length, get_or}
use Rattle.std.specs.Float.{nan, binary64}
use Rattle.std.specs.Float.Ieee.{is_nan, to_bits}
use Rattle.rules.specs.Mesh.{Face}
use Rattle.rules.specs.Refusal.{most_points, most_faces}
use Rattle.rules.specs.Rooms.{Answer, accepted, refused, Outcome}
use Rattle.rules.specs.Bytes.{little}
use Rattle.rules.specs.Ply.{header}
use Rattle.rules.specs.WritePlyCall.{WritePlyRooms}
use Rattle.refuse.specs.declared.Refusal.{Refusal}
use Rattle.refuse.specs.Verdicts.{number_of, place_of}

-- counts of at most ten digits, and room for their header
pub record HeaderAsks (w : List ℕ) (p f : ℕ) : Type 0 where
  pub points : p ≤ most_points
  pub faces : f ≤ most_faces
  pub room : length (header p f) ≤ length w

-- the bytes of a coordinate
abbrev pub real : Float → List ℕ
real x = little 8 (to_bits binary64 x)

-- each float of a row is a number, and there is room for all
pub record RealsAsk (w : List ℕ) (at : ℕ) (ps : List Float) : Type 0 where
  pub room : at + 8 * length ps ≤ length w
  pub numbers : (i : ℕ) → i < length ps → T (not (is_nan (get_or ps i nan)))

-- face i of a flat row
abbrev pub face_at : List ℕ → ℕ → Face
face_at fs i = record { a = get_or fs (3 * i) 0; b = get_or fs (3 * i + 1) 0; c = get_or fs (3 * i + 2) 0; origin = i }

-- room for face i
pub record TripleAsks (w : List ℕ) (at : ℕ) (fs : List ℕ) (i : ℕ) : Type 0 where
  pub room : at + 13 ≤ length w
  pub inside : 3 * i + 2 < length fs
  pub few : i < most_faces

-- room for all faces
pub record TriplesAsk (w : List ℕ) (at : ℕ) (fs : List ℕ) : Type 0 where
  pub room : at + 13 * (length fs / 3) ≤ length w
  pub few : length fs / 3 ≤ most_faces

-- the two rooms, in checking order
abbrev pub rooms_of : List ℕ → List ℕ → WritePlyRooms
rooms_of file work = record { file = file; work = work }

-- document 01's answer: how many bytes stand in the file room, or a number and a place
abbrev pub answer_of : Result ℕ Refusal → Answer
answer_of (Ok n) = accepted (n ∷ [])
answer_of (Err e) = refused (number_of e) (place_of e)

-- with the rooms as the call leaves them
abbrev pub outcome_of : Result ℕ Refusal → List ℕ → List ℕ → Outcome WritePlyRooms
outcome_of r file work = record { answer = answer_of r; rooms = rooms_of file work }
