-- The bytes of the lines of points, by their first corners. Definitions only.
use Rattle.std.specs.Prelude.{cond, List, ℕ, ◌+◌, ◌*◌, ◌<◌, T, length}
use Rattle.rules.specs.Lists.{below, filter}
use Rattle.rules.specs.Mesh.{face}
use Rattle.splitting.specs.Corners.{corner_at}
use Rattle.fan_laws.specs.Sums.{sum_of, field}
use Rattle.fan_laws.specs.Opening.{met, single, keeps}
use Rattle.face_words.specs.Words.{stands, viewed, place}
use Rattle.face_words.specs.Views.{Worded}

-- the bytes of the line of the point at corner id
unfoldable pub line_of : List ℕ → List ℕ → ℕ → ℕ
line_of xs w id = 2 + field (corner_at (viewed xs w) id)

-- for a corner that is the first at its point
unfoldable pub first_at : List ℕ → List ℕ → ℕ → ℕ
first_at xs w id = cond (met (viewed xs w) (corner_at (viewed xs w) id) id) 0 (line_of xs w id)

-- of corner k of face f
unfoldable pub first_length : List ℕ → List ℕ → ℕ → ℕ → ℕ
first_length xs w f k = first_at xs w (3 * place w f + k)

-- of the three corners of face f, if it has different ones
unfoldable pub face_length : List ℕ → List ℕ → ℕ → ℕ
face_length xs w f = cond (single (face (viewed xs w) (place w f))) 0 (first_length xs w f 0 + first_length xs w f 1 + first_length xs w f 2)

-- of all points that are kept
unfoldable pub kept_length : List ℕ → List ℕ → ℕ
kept_length xs w = sum_of (line_of xs w) (filter (keeps (viewed xs w)) (below (3 * length (viewed xs w))))

-- f stands, and has a corner k
pub record CornerAsks (xs w : List ℕ) (f k : ℕ) : Type 0 where
  pub worded : Worded xs w
  pub here : f < length w
  pub standing : T (stands w f)
  pub corner : k < 3

-- f stands
pub record FaceAsks (xs w : List ℕ) (f : ℕ) : Type 0 where
  pub worded : Worded xs w
  pub here : f < length w
  pub standing : T (stands w f)

-- one word for each face
pub record KeptAsks (xs w : List ℕ) : Type 0 where
  pub worded : Worded xs w
