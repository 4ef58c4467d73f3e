-- What the functions of the corners' numbers ask and give, over a row w. Definitions only.
use Rattle.std.specs.Prelude.{◌≡◌, ◌≢◌, Bool, ◌&&◌, cond, List, ℕ, ◌+◌, ◌*◌, ◌^◌, ◌/◌, ◌%◌, ◌≤◌, ◌<◌, eqb, ltb, length, get_or}
use Rattle.rows.specs.Region.{part, Apart, Only, Holds}
use Rattle.rules.specs.Lists.{below, count, each}
use Rattle.rules.specs.Mesh.{faces_of}
use Rattle.flood.specs.Answers.{leader_of}
use Rattle.splitting.specs.Corners.{joined_at, corners_at}

-- whole faces with corners of the P points, and the room
pub record SortAsks (w xs : List ℕ) (P : ℕ) : Type 0 where
  pub whole : length xs % 3 ≡ 0
  pub few : length xs < 2 ^ 31
  pub fit : 14 * length xs + 2 + P ≤ length w
  pub inside : (i : ℕ) → i < length xs → get_or xs i 0 < P

-- the point at each corner, the first member of its group, and the corners point after point
pub record SortGives (w xs : List ℕ) (P : ℕ) (w' : List ℕ) : Type 0 where
  pub only : Only 0 (14 * length xs + 2 + P) w w'
  pub column : Holds 0 (length xs) (λ id. get_or xs id 0) w'
  pub led : Holds (10 * length xs + 2 + P) (length xs) (leader_of (joined_at (faces_of xs)) (length xs)) w'
  pub sorted : part w' (12 * length xs + 2 + P) (length xs) ≡ each (corners_at (faces_of xs)) (below P)

-- n sorted corners, and the point at each
pub record EndAsks (w : List ℕ) (sorted begin n : ℕ) : Type 0 where
  pub from : begin ≤ n
  pub fit : sorted + n ≤ length w
  pub column : n ≤ length w
  pub id : (q : ℕ) → q < n → get_or w (sorted + q) 0 < n

-- the corners from `begin` to before r are at v, and the next is not
pub record EndGives (w : List ℕ) (sorted begin n v r : ℕ) : Type 0 where
  pub least : begin ≤ r
  pub most : r ≤ n
  pub inside : (q : ℕ) → begin ≤ q → q < r → get_or w (get_or w (sorted + q) 0) 0 ≡ v
  pub stop : r < n → get_or w (get_or w (sorted + r) 0) 0 ≢ v

-- the j-th corner of a run is not the first, and leads
abbrev pub extra_by : List ℕ → ℕ → ℕ → ℕ → Bool
extra_by w run leads j = ltb 0 j && eqb (get_or w (leads + get_or w (run + j) 0) 0) (get_or w (run + j) 0)

pub record ExtraAsks (w : List ℕ) (run leads j : ℕ) : Type 0 where
  pub run_fit : run + j < length w
  pub leads_fit : leads + get_or w (run + j) 0 < length w

-- m rising corners from `run` on, the first member of each corner's group, and a row apart from both that takes numbers
pub record RunAsks (w : List ℕ) (run m leads numbers n v next : ℕ) : Type 0 where
  pub run_fit : run + m ≤ length w
  pub leads_fit : leads + n ≤ length w
  pub numbers_fit : numbers + n ≤ length w
  pub run_apart : Apart run m numbers n
  pub leads_apart : Apart leads n numbers n
  pub id : (j : ℕ) → j < m → get_or w (run + j) 0 < n
  pub rising : (j k : ℕ) → j < k → k < m → get_or w (run + j) 0 < get_or w (run + k) 0
  pub small : next + m < 2 ^ 32
  pub vertex : v < 2 ^ 32

-- those that are not first and lead take the next new numbers, all others v; what is noted of other corners stays
pub record RunGives (w : List ℕ) (run m leads numbers n v next : ℕ) (w' : List ℕ) (r : ℕ) : Type 0 where
  pub only : Only numbers n w w'
  pub free : r ≡ next + count (extra_by w run leads) (below m)
  pub numbered : (j : ℕ) → j < m → get_or w' (numbers + get_or w (run + j) 0) 0 ≡ cond (extra_by w run leads j) (next + count (extra_by w run leads) (below j)) v
  pub others : (id : ℕ) → ((j : ℕ) → j < m → get_or w (run + j) 0 ≢ id) → get_or w' (numbers + id) 0 ≡ get_or w (numbers + id) 0

-- the number of a corner's group, by its first member
abbrev pub led_by : List ℕ → ℕ → ℕ → ℕ → ℕ
led_by w leads numbers id = get_or w (numbers + get_or w (leads + id) 0) 0

-- the number of a face with one point at all corners, i being the first
abbrev pub alone_by : List ℕ → ℕ → ℕ → ℕ
alone_by w numbers i = cond (eqb (get_or w (numbers + i) 0) (get_or w i 0)) (get_or w (numbers + i + 1) 0) (get_or w (numbers + i) 0)

-- the number of a corner
abbrev pub new_by : List ℕ → ℕ → ℕ → ℕ → ℕ
new_by w leads numbers id = cond (eqb (get_or w (id / 3 * 3) 0) (get_or w (id / 3 * 3 + 1) 0) && eqb (get_or w (id / 3 * 3 + 1) 0) (get_or w (id / 3 * 3 + 2) 0)) (alone_by w numbers (id / 3 * 3)) (led_by w leads numbers id)

pub record AloneAsks (w : List ℕ) (numbers i : ℕ) : Type 0 where
  pub column : i < length w
  pub fit : numbers + i + 1 < length w

-- one of n corners of whole faces, and the rows
pub record NewAsks (w : List ℕ) (leads numbers n id : ℕ) : Type 0 where
  pub whole : n % 3 ≡ 0
  pub here : id < n
  pub column : n ≤ length w
  pub leads_fit : leads + n ≤ length w
  pub numbers_fit : numbers + n ≤ length w
  pub lead : get_or w (leads + id) 0 < n
