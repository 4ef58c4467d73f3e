-- What a call gives back to C, in the words of the rules: the numbers of its answer, and its rooms. Definitions only.
use Rattle.std.specs.Prelude.{◌≡◌, List, ◌∷◌, ℕ, length, replicate}
use Rattle.rules.specs.Rooms.{Answer, accepted, refused, Outcome}

-- of a call with so many answer rooms: accepted, 0 and 0, and how many entries stand in each of them; refused, number and place, and 0 for each
abbrev pub told : ℕ → Answer → List ℕ
told count (accepted entries) = 0 ∷ 0 ∷ entries
told count (refused n p) = n ∷ p ∷ replicate count 0

-- a number, a place and the entries of each answer room, and all rooms, are what the rules say
pub record Given {R : Type 0} (number place : ℕ) (entries : List ℕ) (rooms : R) (outcome : Outcome R) : Type 0 where
  pub answer : number ∷ place ∷ entries ≡ told (length entries) outcome.answer
  pub after : rooms ≡ outcome.rooms
