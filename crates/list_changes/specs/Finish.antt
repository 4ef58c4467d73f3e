-- What is asked and given when no line is left: flagged faces and flagged points leave, and corners are renumbered. Definitions only.
use Rattle.std.specs.Prelude.{◌≡◌, Bool, not, List, map, ℕ, ◌+◌, ◌*◌, ◌^◌, ◌≤◌, ◌<◌, length, get_or, take, Float}
use Rattle.std.specs.Float.{nan}
use Rattle.rows.specs.Region.{OnlyOf, Only}
use Rattle.rules.specs.Lists.{below, count, leave}
use Rattle.rules.specs.Mesh.{points_of, flat_points, flat_faces, renamed}
use Rattle.leaving.specs.Pass.{standing, Flagged}
use Rattle.list_changes.specs.declared.Finished.{Finished}

-- P points and n faces stand, the corners are of the points, and the work room has a row of n and two of P: the first two are flags
pub record FinishAsks (ps : List Float) (P : ℕ) (xs : List ℕ) (n : ℕ) (w : List ℕ) : Type 0 where
  pub points_fit : 3 * P ≤ length ps
  pub fit : 3 * n ≤ length xs
  pub inside : (i : ℕ) → i < 3 * n → get_or xs i 0 < P
  pub room : n + 2 * P ≤ length w
  pub few : P < 2 ^ 32
  pub gone : ℕ → Bool
  pub flags : Flagged w 0 n gone
  pub named : ℕ → Bool
  pub names : Flagged w n P named

-- v's number when the named points have left: how many that stay stand before it
abbrev pub number_left : (ℕ → Bool) → ℕ → ℕ
number_left named v = count (λ u. not (named u)) (below v)

-- Faces that are gone and points that are named have left, the others stand in order at the front, and the corners are renumbered. Nothing beyond the
-- P points, the n faces and the rows of the work room is changed.
pub record FinishGives (gone named : ℕ → Bool) (ps : List Float) (P : ℕ) (xs : List ℕ) (n : ℕ) (w : List ℕ) (ps' : List Float) (xs' w' : List ℕ) (r : Finished) : Type 0 where
  pub points : take (3 * r.points) ps' ≡ flat_points (leave named (points_of (take (3 * P) ps)))
  pub faces : take (3 * r.faces) xs' ≡ flat_faces (map (renamed (number_left named)) (leave gone (standing xs n)))
  pub points_left : r.points + count named (below P) ≡ P
  pub faces_left : r.faces + count gone (below n) ≡ n
  pub only_points : OnlyOf nan 0 (3 * P) ps ps'
  pub only_faces : Only 0 (3 * n) xs xs'
  pub only_work : Only 0 (n + 2 * P) w w'
