-- What the functions of the listing ask and give, over a work room w, a flat list of faces xs, and the room r that is written. The number of points P is
-- that of the table. Definitions only.
use Rattle.std.specs.Prelude.{◌≡◌, false, List, ℕ, ◌+◌, ◌*◌, ◌/◌, ◌≤◌, ◌<◌, length, get_or, take, Float}
use Rattle.std.specs.Float.{nan}
use Rattle.rows.specs.Region.{Only, OnlyOf, HoldsOf}
use Rattle.rules.specs.Lists.{below, each}
use Rattle.rules.specs.Mesh.{faces_of, points_of, point, zero64}
use Rattle.rules.specs.Float.{norm, difference}
use Rattle.rules.specs.Steps.{Step, step, edges}
use Rattle.rules.specs.Rooms.{filled}
use Rattle.rules.specs.Edges as rule
use Rattle.rules.specs.Edges.{both_ends}
use Rattle.table.specs.Table.{Tabled}

-- ---- the edges

-- a finished undirected table of m runs, and a room of 6F entries
pub record EdgesAsks (w xs : List ℕ) (at m : ℕ) (r : List ℕ) : Type 0 where
  pub P : ℕ
  pub tabled : Tabled w xs P false at m
  pub room : 2 * length xs ≤ length r

-- the keys of the first entry of run k
abbrev pub key_row : List ℕ → ℕ → ℕ → ℕ → Step
key_row w n at k =
    step (get_or w (at + get_or w (at + 3 * n + get_or w (at + 4 * n + k) 0) 0) 0) (get_or w (at + n + get_or w (at + 3 * n + get_or w (at + 4 * n + k) 0) 0) 0)

-- the keys of each run stand at the front
pub record EdgesGives (w xs : List ℕ) (at m : ℕ) (r r' : List ℕ) : Type 0 where
  pub only : Only 0 (2 * m) r r'
  pub front : take (2 * m) r' ≡ each (λ k. both_ends (key_row w (length xs) at k)) (below m)

-- the unique edges stand at the front, and the rest of the room is zero
pub record ListGives {w xs : List ℕ} {at m : ℕ} {r : List ℕ} (q : EdgesAsks w xs at m r) (r' : List ℕ) : Type 0 where
  pub long : length r' ≡ length r
  pub front : take (2 * m) r' ≡ each both_ends (edges q.P (faces_of xs))
  pub whole : r' ≡ filled 0 (2 * length xs) (each both_ends (edges q.P (faces_of xs))) r

-- ---- the lengths

-- the length of edge k, whose ends stand at 2k and 2k + 1 of a row
abbrev pub length_at : List Float → List ℕ → ℕ → Float
length_at ps es k = norm (difference (point (points_of ps) (get_or es (2 * k + 1) 0)) (point (points_of ps) (get_or es (2 * k) 0)))

-- m pairs of points
pub record LengthsAsks (ps : List Float) (es : List ℕ) (m : ℕ) (r : List Float) : Type 0 where
  pub pairs : 2 * m ≤ length es
  pub inside : (k : ℕ) → k < 2 * m → get_or es k 0 < length ps / 3
  pub room : m ≤ length r

-- their distances
pub record LengthsGives (ps : List Float) (es : List ℕ) (m : ℕ) (r r' : List Float) : Type 0 where
  pub only : OnlyOf nan 0 m r r'
  pub front : HoldsOf nan 0 m (length_at ps es) r'

-- the m unique edges stand in a row, and a room of 3F entries is there
pub record ListLengthsAsks (ps : List Float) (xs es : List ℕ) (m : ℕ) (r : List Float) : Type 0 where
  pub pairs : 2 * m ≤ length es
  pub fewer : m ≤ length xs
  pub room : length xs ≤ length r
  pub listed : take (2 * m) es ≡ each both_ends (edges (length ps / 3) (faces_of xs))
  pub count : m ≡ length (edges (length ps / 3) (faces_of xs))

-- it holds the rules' lengths, and zero behind them
pub record ListLengthsGives (ps : List Float) (xs : List ℕ) (r r' : List Float) : Type 0 where
  pub whole : r' ≡ filled zero64 (length xs) (rule.lengths (points_of ps) (faces_of xs)) r

-- ---- the edges of the faces

-- a finished undirected table, and a room of 3F entries
pub record FaceEdgesAsks (w xs : List ℕ) (at : ℕ) (r : List ℕ) : Type 0 where
  pub P : ℕ
  pub m : ℕ
  pub tabled : Tabled w xs P false at m
  pub room : length xs ≤ length r

-- it holds the rules' face edges
pub record FaceEdgesGives {w xs : List ℕ} {at : ℕ} {r : List ℕ} (q : FaceEdgesAsks w xs at r) (r' : List ℕ) : Type 0 where
  pub whole : r' ≡ filled 0 (length xs) (rule.face_edges q.P (faces_of xs)) r
