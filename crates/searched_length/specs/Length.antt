-- What the search for the length of a list asks and gives. Definitions only.
use Rattle.std.specs.Prelude.{◌≡◌, Bool, cond, List, [], ℕ, ◌/◌, ◌≤◌, ◌<◌, length, get_or, Float}
use Rattle.rules.specs.State.{State}
use Rattle.rules.specs.Repair.{optional}
use Rattle.rules.specs.Pass5.{pass5}
use Rattle.rules.specs.Mending.{lines5, lines6}
use Rattle.refuse.specs.Accepted.{Accepted}
use Rattle.face_index.specs.Index.{Indexed}
use Rattle.face_words.specs.Views.{Worded}
use Rattle.entry_search.specs.Choosing.{BestAsks}
use Rattle.searched_lines.specs.Lines.{bytes_of, Shown}

-- the words after passes 1 to 4, over P points
pub record EndAsks (ps : List Float) (xs w : List ℕ) (P : ℕ) : Type 0 where
  pub asks : BestAsks ps xs w
  pub low : (f : ℕ) → f < length w → get_or w f 0 < 4
  pub points : P ≡ length ps / 3
  pub few : P ≤ 4194304

-- how long the lines of passes 5 and 6 are
pub record EndGives (split unused : Bool) (ps : List Float) (xs w : List ℕ) (fifth sixth : ℕ) : Type 0 where
  pub splits : (m : State) → Shown ps xs w m → fifth ≡ bytes_of (cond split (lines5 m) [])
  pub leaves : (m : State) → Shown ps xs w m → sixth ≡ bytes_of (cond unused (lines6 (optional split pass5 m)) [])

-- input that was accepted, a word of 0 for each face, and the index
pub record RowsAsk (ps : List Float) (xs ix w : List ℕ) : Type 0 where
  pub input : Accepted ps xs
  pub worded : Worded xs w
  pub zero : (f : ℕ) → f < length w → get_or w f 0 ≡ 0
  pub indexed : Indexed xs ix

-- input that was accepted, a row that has a word for each face, and a row for the index
pub record RoomAsk (ps : List Float) (xs w ix : List ℕ) : Type 0 where
  pub input : Accepted ps xs
  pub words : length xs / 3 ≤ length w
  pub index : 1024 ≤ length ix
