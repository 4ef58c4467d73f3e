-- The lines of the points that pass 5 splits off and no face takes, corner after corner in face order. Definitions only.
use Rattle.std.specs.Prelude.{◌&&◌, cond, List, ℕ, ◌+◌, ◌*◌, ◌<◌, T, length}
use Rattle.rules.specs.Lists.{below}
use Rattle.fan_laws.specs.Sums.{sum_of, field}
use Rattle.fan_laws.specs.Opening.{opens, lost, rank}
use Rattle.face_words.specs.Words.{stands, viewed}
use Rattle.searched_splits.specs.Splits.{SplitAsks, Stage, id_of}

-- the line for corner id, over P points and the words w before pass 5
unfoldable pub lost_line : List ℕ → List ℕ → ℕ → ℕ → ℕ
lost_line xs w P id = cond (opens (viewed xs w) id && lost (viewed xs w) id) (2 + field (P + rank (viewed xs w) id)) 0

-- of the three corners of face f
unfoldable pub lost_face : List ℕ → List ℕ → ℕ → ℕ → ℕ
lost_face xs w P f = lost_line xs w P (id_of w f 0) + lost_line xs w P (id_of w f 1) + lost_line xs w P (id_of w f 2)

-- of the corners before E
abbrev pub lost_to : List ℕ → List ℕ → ℕ → ℕ → ℕ
lost_to xs w P E = sum_of (lost_line xs w P) (below E)

-- every corner has been gone through
pub record LostAsks (xs w : List ℕ) (P : ℕ) : Type 0 where
  pub base : List ℕ
  pub split : SplitAsks xs base P
  pub stage : Stage xs base (3 * length (viewed xs base)) w

-- and f is a face that stands
pub record FaceAsks (xs w : List ℕ) (P f : ℕ) : Type 0 where
  pub all : LostAsks xs w P
  pub here : f < length all.base
  pub standing : T (stands all.base f)

-- with a corner k
pub record CornerAsks (xs w : List ℕ) (P f k : ℕ) : Type 0 where
  pub face : FaceAsks xs w P f
  pub corner : k < 3
