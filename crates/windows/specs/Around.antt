-- The half entries of a vertex by the corners that are that vertex, and what the pass over the faces asks and gives.
use Rattle.std.specs.Prelude.{◌≡◌, ℕ, zero, suc, ◌+◌, ◌-◌, ◌*◌, ◌%◌, ◌^◌, ◌<◌, ◌≤◌, cond, List, length, ◌==◌, slice_index, slice_index_or, slice_set}
use Rattle.refuse.specs.Accepted.{Faces}
use Rattle.rows.specs.Region.{Filled}
use Rattle.halves.specs.Split.{hit, tally}
use Rattle.halves.specs.Gather.{next_of}

-- the corner before corner i of the same face
unfoldable pub previous_of : ℕ → ℕ
previous_of i = cond (i % 3 == 0) (i + 2) (i - 1)

-- 1 where the corner a is v and y is x, else 0
unfoldable pub own : ℕ → ℕ → ℕ → ℕ → ℕ
own a v y x = cond (a == v) (hit y x) 0

-- how many half entries x of v the first i corners have: each that is v has one to the next corner, and one from the corner before
unfoldable pub around : List ℕ → ℕ → ℕ → ℕ → ℕ
around f zero v x = 0
around f (suc i) v x = around f i v x + (own (slice_index f i) v (2 * slice_index f (next_of i)) x + own (slice_index f i) v (2 * slice_index f (previous_of i) + 1) x)

-- the corners that are v
abbrev pub corners_of : List ℕ → ℕ → ℕ
corners_of f v = tally f 0 (length f) v

-- where the run of the j-th vertex from v on begins, where each vertex has two entries for each corner
unfoldable pub start_of : List ℕ → ℕ → ℕ → ℕ
start_of f v zero = 0
start_of f v (suc j) = start_of f v j + 2 * corners_of f (v + j)

-- the same by a list of how many corners each vertex has
unfoldable pub sum_to : List ℕ → ℕ → ℕ
sum_to counts zero = 0
sum_to counts (suc j) = sum_to counts j + 2 * slice_index counts j

-- a corner, and room for its half entries
pub record CornerAsks (f : List ℕ) (i j : ℕ) (ends b : List ℕ) : Type 0 where
  pub whole : length f % 3 ≡ 0
  pub below : (k : ℕ) → k < length f → slice_index f k ≤ 4194304
  pub few : length f < 2 ^ 32
  pub here : i < length f
  pub run : j < length ends
  pub room : slice_index_or ends j 0 + 2 ≤ length b
  pub small : slice_index_or ends j 0 + 2 < 2 ^ 32

-- they are put
pub record CornerGives (f : List ℕ) (i j : ℕ) (ends b ends' b' : List ℕ) : Type 0 where
  pub ends_are : ends' ≡ slice_set ends j (slice_index ends j + 2)
  pub entries_are : b' ≡ slice_set (slice_set b (slice_index ends j) (2 * slice_index f (next_of i))) (slice_index ends j + 1) (2 * slice_index f (previous_of i) + 1)

-- w vertices from v on whose runs begin where they should, and counters of 0
pub record PassAsks (f : List ℕ) (v w width : ℕ) (ends b counts : List ℕ) : Type 0 where
  pub points : ℕ
  pub faces : Faces points f
  pub first : v ≤ 4194304
  pub wide : width ≤ 65536
  pub within : w ≤ width
  pub ends_fit : width ≤ length ends
  pub counts_fit : width ≤ length counts
  pub starts : (j : ℕ) → j < w → slice_index ends j ≡ start_of f v j
  pub room : start_of f v w ≤ length b
  pub small : start_of f v w < 2 ^ 32
  pub zeros : Filled 0 width 0 counts

-- the runs are there, and end where the next begin; the corners of the vertices after them are counted
pub record PassGives (f : List ℕ) (v w width : ℕ) (ends' b' counts' : List ℕ) : Type 0 where
  pub ends_are : (j : ℕ) → j < w → slice_index ends' j ≡ start_of f v (suc j)
  pub runs : (j : ℕ) → j < w → (x : ℕ) → tally b' (start_of f v j) (2 * corners_of f (v + j)) x ≡ around f (length f) (v + j) x
  pub counted : (k : ℕ) → k < width → slice_index counts' k ≡ corners_of f (v + w + k)

-- counters and places
pub record FitAsks (counts : List ℕ) (limit room : ℕ) (ends : List ℕ) : Type 0 where
  pub counts_fit : limit ≤ length counts
  pub ends_fit : limit ≤ length ends
  pub small : room < 2 ^ 32

-- the runs of r vertices fit, and each begins where those before it end
pub record FitGives (counts : List ℕ) (limit room most : ℕ) (ends' : List ℕ) (r : ℕ) : Type 0 where
  pub within : r ≤ limit
  pub starts : (j : ℕ) → j < r → slice_index ends' j ≡ sum_to counts j
  pub fits : sum_to counts r ≤ room
  pub each : (j : ℕ) → j < r → 2 * slice_index counts j ≤ most

-- a run, and room for it
pub record WidenAsks (b : List ℕ) (s n base : ℕ) (to : List ℕ) : Type 0 where
  pub run : s + n ≤ length b
  pub room : n ≤ length to
  pub small : base + 2 ^ 32 ≤ 2 ^ 64

-- each entry is `base` more
pub record WidenGives (b : List ℕ) (s n base : ℕ) (to' : List ℕ) : Type 0 where
  pub each : (i : ℕ) → i < n → slice_index to' i ≡ base + slice_index b (s + i)
