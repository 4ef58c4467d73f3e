-- How long the lines are that tell passes 1 to 4, face by face over the flat list xs of the faces and their words w. Definitions only.
use Rattle.std.specs.Prelude.{◌≡◌, Bool, not, ◌&&◌, cond, List, ℕ, ◌+◌, ◌*◌, ◌/◌, ◌%◌, ◌≤◌, ◌<◌, eqb, length, get_or, Float}
use Rattle.rules.specs.Lists.{below, each}
use Rattle.rules.specs.Float.{Shape, good, repeated, thin, shape}
use Rattle.rules.specs.Mesh.{points_of}
use Rattle.rules.specs.State.{State}
use Rattle.rules.specs.Line.{decimal}
use Rattle.rules.specs.Refusal.{most_faces}
use Rattle.rules.specs.Mending.{Line, line_text}
use Rattle.fan_laws.specs.Sums.{sum_of}
use Rattle.face_words.specs.Words.{stands, straight, view, viewed}
use Rattle.entry_search.specs.Choosing.{BestAsks}

-- the length of the text of lines
abbrev pub bytes_of : List Line → ℕ
bytes_of ls = length (each line_text ls)

-- the line of a face that leaves for a reason of n letters
unfoldable pub drop_line : ℕ → ℕ → ℕ
drop_line n f = 6 + n + length (decimal f)

-- the line of a face by its shape: a good one has none
unfoldable pub shape_line : Shape → ℕ → ℕ
shape_line good f = 0
shape_line repeated f = drop_line 8 f
shape_line thin f = drop_line 4 f

-- the line of face f in pass 1, at the threshold s
unfoldable pub degenerate_line : Float → List Float → List ℕ → List ℕ → ℕ → ℕ
degenerate_line s ps xs w f = cond (stands w f) (shape_line (shape s (points_of ps) (view xs w f)) f) 0

-- the line of face f if it is marked, for a reason of n letters
unfoldable pub marked_line : ℕ → List ℕ → ℕ → ℕ
marked_line n w f = cond (eqb (get_or w f 0 / 4 % 2) 1) (drop_line n f) 0

-- face f stands, is exchanged, and that shows
unfoldable pub shows : List ℕ → List ℕ → ℕ → Bool
shows xs w f = stands w f && (not (straight w f) && not (eqb (get_or xs (3 * f + 1) 0) (get_or xs (3 * f + 2) 0)))

-- its line
unfoldable pub exchange_line : List ℕ → List ℕ → ℕ → ℕ
exchange_line xs w f = cond (shows xs w f) (3 + length (decimal f)) 0

-- the lines of all faces, of which each has g f bytes, at most 25
pub record SumGives (g : ℕ → ℕ) (F r : ℕ) : Type 0 where
  pub is : r ≡ sum_of g (below F)
  pub few : r ≤ 25 * F

-- words of faces, and a reason of n letters
pub record MarkedAsks (w : List ℕ) (n : ℕ) : Type 0 where
  pub few : length w ≤ most_faces
  pub letters : n ≤ 9

-- and f is a face
pub record LineAsks (w : List ℕ) (n f : ℕ) : Type 0 where
  pub asks : MarkedAsks w n
  pub here : f < length w

-- faces with their words over points, which are gone or not, and nothing else
pub record PassAsks (ps : List Float) (xs w : List ℕ) : Type 0 where
  pub asks : BestAsks ps xs w
  pub low : (f : ℕ) → f < length w → get_or w f 0 < 2

-- the state between two passes is that of the words
pub record Shown (ps : List Float) (xs w : List ℕ) (m : State) : Type 0 where
  pub points : m.points ≡ points_of ps
  pub faces : m.faces ≡ viewed xs w

-- the words after a pass, below top, and the length of its lines
pub record ToldGives (top : ℕ) (pass : State → State) (lines : State → List Line) (ps : List Float) (xs w w' : List ℕ) (r : ℕ) : Type 0 where
  pub long : length w' ≡ length w
  pub low : (f : ℕ) → f < length w' → get_or w' f 0 < top
  pub state : (m : State) → Shown ps xs w m → Shown ps xs w' (pass m)
  pub bytes : (m : State) → Shown ps xs w m → r ≡ bytes_of (lines m)
  pub few : r ≤ 50 * length w
