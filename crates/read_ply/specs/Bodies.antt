-- The coordinates and faces of a file, stored in their rooms. Definitions only.
use Rattle.std.specs.Prelude.{◌≡◌, List, ℕ, ◌+◌, ◌*◌, ◌≤◌, ◌<◌, length, get_or, Float}
use Rattle.std.specs.Float.{nan}
use Rattle.rows.specs.Region.{OnlyOf, HoldsOf, Only}
use Rattle.rules.specs.Bytes.{u32_at}
use Rattle.rules.specs.Refusal.{most_points, most_faces}
use Rattle.rules.specs.Ply.{real_at}

-- ---- n coordinates from `at` on

-- they stand in the file, and there is room for them
pub record CoordinatesAsk (file : List ℕ) (at n : ℕ) (ps : List Float) : Type 0 where
  pub few : n ≤ 3 * most_points
  pub fit : at + 8 * n ≤ length file
  pub room : n ≤ length ps

-- they stand in the room
pub record CoordinatesGive (file : List ℕ) (at n : ℕ) (ps ps' : List Float) : Type 0 where
  pub only : OnlyOf nan 0 n ps ps'
  pub stand : HoldsOf nan 0 n (λ i. real_at file (at + 8 * i)) ps'

-- ---- f faces from `at` on

-- they stand in the file, and there is room for them
pub record TriplesAsk (file : List ℕ) (at f : ℕ) (fs : List ℕ) : Type 0 where
  pub few : f ≤ most_faces
  pub fit : at + 13 * f ≤ length file
  pub room : 3 * f ≤ length fs

-- face i stands in the room
pub record Triple (file : List ℕ) (at : ℕ) (fs : List ℕ) (i : ℕ) : Type 0 where
  pub a : get_or fs (3 * i) 0 ≡ u32_at file (at + 13 * i + 1)
  pub b : get_or fs (3 * i + 1) 0 ≡ u32_at file (at + 13 * i + 5)
  pub c : get_or fs (3 * i + 2) 0 ≡ u32_at file (at + 13 * i + 9)

-- they stand in the room
pub record TriplesGive (file : List ℕ) (at f : ℕ) (fs fs' : List ℕ) : Type 0 where
  pub only : Only 0 (3 * f) fs fs'
  pub stands : (i : ℕ) → i < f → Triple file at fs' i
