-- What the functions of the corners' groups ask and give, over a row w and the flat list of corners xs. Definitions only.
use Rattle.std.specs.Prelude.{◌≡◌, cond, List, ℕ, ◌+◌, ◌*◌, ◌^◌, ◌%◌, ◌≤◌, ◌<◌, eqb, ltb, length, get_or}
use Rattle.rows.specs.Region.{Apart, Only, Holds, Filled}
use Rattle.rules.specs.Mesh.{faces_of}
use Rattle.table.specs.Entries.{next}
use Rattle.flood.specs.Answers.{leader_of}
use Rattle.splitting.specs.Corners.{joined_at}

-- the corner at the lower end of step s; 0 where both ends are one point
abbrev pub lower_of : List ℕ → ℕ → ℕ
lower_of xs s = cond (eqb (get_or xs s 0) (get_or xs (next s) 0)) 0 (cond (ltb (get_or xs s 0) (get_or xs (next s) 0)) s (next s))

-- the corner at the higher end of step s; 0 where both ends are one point
abbrev pub higher_of : List ℕ → ℕ → ℕ
higher_of xs s = cond (eqb (get_or xs s 0) (get_or xs (next s) 0)) 0 (cond (ltb (get_or xs s 0) (get_or xs (next s) 0)) (next s) s)

-- s is a step of whole faces
pub record SideAsks (xs : List ℕ) (s : ℕ) : Type 0 where
  pub whole : length xs % 3 ≡ 0
  pub few : length xs < 2 ^ 31
  pub here : s < length xs

-- a row of steps, and a region apart from it that takes two corners for each
pub record SidesAsks (w xs : List ℕ) (from to : ℕ) : Type 0 where
  pub whole : length xs % 3 ≡ 0
  pub few : length xs < 2 ^ 31
  pub from_fit : from + length xs ≤ length w
  pub to_fit : to + 2 * length xs ≤ length w
  pub apart : Apart from (length xs) to (2 * length xs)
  pub id : (i : ℕ) → i < length xs → get_or w (from + i) 0 < length xs

pub record SidesGives (w xs : List ℕ) (from to : ℕ) (w' : List ℕ) : Type 0 where
  pub only : Only to (2 * length xs) w w'
  pub lows : Holds to (length xs) (λ i. lower_of xs (get_or w (from + i) 0)) w'
  pub highs : Holds (to + length xs) (length xs) (λ i. higher_of xs (get_or w (from + i) 0)) w'

-- a region, and one apart from it that takes its entries, each higher by `by`
pub record ShiftAsks (w : List ℕ) (from n by to : ℕ) : Type 0 where
  pub from_fit : from + n ≤ length w
  pub to_fit : to + n ≤ length w
  pub apart : Apart from n to n
  pub small : (i : ℕ) → i < n → by + get_or w (from + i) 0 < 2 ^ 32

pub record ShiftGives (w : List ℕ) (from n by to : ℕ) (w' : List ℕ) : Type 0 where
  pub only : Only to n w w'
  pub shifted : Holds to n (λ i. by + get_or w (from + i) 0) w'

-- whole faces with corners of the P points, and the room
pub record CornersAsks (w xs : List ℕ) (P at : ℕ) : Type 0 where
  pub whole : length xs % 3 ≡ 0
  pub few : length xs < 2 ^ 31
  pub fit : at + 10 * length xs + 2 + P ≤ length w
  pub inside : (i : ℕ) → i < length xs → get_or xs i 0 < P

-- nothing outside the room is changed, the bins are 0, and the last row has the first member of each corner's group
pub record CornersGives (w xs : List ℕ) (P at : ℕ) (w' : List ℕ) : Type 0 where
  pub only : Only at (10 * length xs + 2 + P) w w'
  pub zeros : Filled (at + 5 * length xs + 1) P 0 w'
  pub led : Holds (at + 9 * length xs + 2 + P) (length xs) (leader_of (joined_at (faces_of xs)) (length xs)) w'
