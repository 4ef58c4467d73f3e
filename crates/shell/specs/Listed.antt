-- What the call that writes a mending list gives back to C, its one work room in three parts. Definitions only.
use Rattle.std.specs.Prelude.{List, [], ◌∷◌, ℕ, ◌/◌, length, Float}
use Rattle.rules.specs.ListCall.{write_list}
use Rattle.list_refusal.specs.Checks.{Parted}
use Rattle.list_room.specs.Parts.{joined}
use Rattle.write_list.specs.Called.{rooms_of, Kept}
use Rattle.shell.specs.Told.{Given}

-- Where the parts are those of one work room, answer and rooms are what the rules say of that room. Where they are not, the answer is what the rules say of a work
-- room of no entries, and nothing is changed.
pub record ListTold (points : List Float) (faces : List ℕ) (s : Float) (options : ℕ) (text corners origins rest text' corners' origins' rest' : List ℕ) (number place bytes : ℕ) : Type 0 where
  pub parted :
      Parted (length faces / 3) (length corners) (length origins) (length rest)
      → Given number place (bytes ∷ []) (rooms_of text' (joined corners' origins' rest')) (write_list points faces s options (rooms_of text (joined corners origins rest)))
  pub apart :
      (Parted (length faces / 3) (length corners) (length origins) (length rest) → ⊥)
      → Given number place (bytes ∷ []) (rooms_of text' []) (write_list points faces s options (rooms_of text []))
  pub apart_kept : (Parted (length faces / 3) (length corners) (length origins) (length rest) → ⊥) → Kept text corners origins rest text' corners' origins' rest'
