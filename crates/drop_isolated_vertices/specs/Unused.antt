-- What pass 6 asks and gives: P points stand at the front of their room ps, n faces at the front of theirs, xs. Definitions only.
use Rattle.std.specs.Prelude.{◌≡◌, cond, List, map, ℕ, ◌+◌, ◌*◌, ◌^◌, ◌≤◌, ◌<◌, Float, length, get_or, take}
use Rattle.std.specs.Float.{nan}
use Rattle.rows.specs.Region.{OnlyOf, Only, Holds}
use Rattle.rules.specs.Lists.{below, count, leave}
use Rattle.rules.specs.Mesh.{points_of, flat_points, flat_faces, renamed}
use Rattle.rules.specs.Pass6.{used, marked6, number}
use Rattle.leaving.specs.Pass.{standing}

-- the corners of the faces are of the P points, and a flag for each point has room
pub record UseAsks (xs : List ℕ) (n P : ℕ) (w : List ℕ) : Type 0 where
  pub fit : 3 * n ≤ length xs
  pub inside : (i : ℕ) → i < 3 * n → get_or xs i 0 < P
  pub room : P ≤ length w

-- the flag of a point is 0 where a face uses it, else as it was
pub record ClearGives (xs : List ℕ) (n P : ℕ) (w w' : List ℕ) : Type 0 where
  pub only : Only 0 P w w'
  pub flags : Holds 0 P (λ v. cond (used (standing xs n) v) 0 (get_or w v 0)) w'

-- the flag of a point is 1 where no face uses it
pub record UseGives (xs : List ℕ) (n P : ℕ) (w w' : List ℕ) : Type 0 where
  pub only : Only 0 P w w'
  pub flags : Holds 0 P (λ v. cond (marked6 (standing xs n) v) 1 0) w'

-- each corner has its number in w, from a on
pub record RenumberAsks (xs : List ℕ) (n : ℕ) (w : List ℕ) (a : ℕ) : Type 0 where
  pub fit : 3 * n ≤ length xs
  pub inside : (i : ℕ) → i < 3 * n → a + get_or xs i 0 < length w

-- and takes it
pub record RenumberGives (xs : List ℕ) (n : ℕ) (w : List ℕ) (a : ℕ) (xs' : List ℕ) : Type 0 where
  pub only : Only 0 (3 * n) xs xs'
  pub numbers : Holds 0 (3 * n) (λ i. get_or w (a + get_or xs i 0) 0) xs'

-- the points and the faces fit, the corners are of the P points, and there are two rows of P in the work room
pub record UnusedAsks (ps : List Float) (P : ℕ) (xs : List ℕ) (n : ℕ) (w : List ℕ) : Type 0 where
  pub points_fit : 3 * P ≤ length ps
  pub fit : 3 * n ≤ length xs
  pub inside : (i : ℕ) → i < 3 * n → get_or xs i 0 < P
  pub room : 2 * P ≤ length w
  pub few : P < 2 ^ 32

-- The unused ones of the P points have left together: r stay, in order, at the front, and the corners of the n faces are renumbered.
-- Nothing beyond the P points, the n faces and two rows of P in the work room is changed.
pub record UnusedGives (ps : List Float) (P : ℕ) (xs : List ℕ) (n : ℕ) (w : List ℕ) (ps' : List Float) (xs' w' : List ℕ) (r : ℕ) : Type 0 where
  pub points : take (3 * r) ps' ≡ flat_points (leave (marked6 (standing xs n)) (points_of (take (3 * P) ps)))
  pub faces : take (3 * n) xs' ≡ flat_faces (map (renamed (number (standing xs n))) (standing xs n))
  pub number : r + count (marked6 (standing xs n)) (below P) ≡ P
  pub only_points : OnlyOf nan 0 (3 * P) ps ps'
  pub only_faces : Only 0 (3 * n) xs xs'
  pub only_work : Only 0 (2 * P) w w'
