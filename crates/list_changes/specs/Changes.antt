-- One face of a room changed, and the bench of the rules as it stands in the rooms while the lines of a mending list are applied. Definitions only.
use Rattle.std.specs.Prelude.{◌≡◌, Bool, not, cond, List, map, ℕ, ◌+◌, ◌*◌, ◌≤◌, ◌<◌, eqb, length, get_or, take, Float}
use Rattle.rows.specs.Region.{Only}
use Rattle.rules.specs.Lists.{filter, has}
use Rattle.rules.specs.Mesh.{Face, points_of, renamed}
use Rattle.rules.specs.Applying.{Bench}
use Rattle.leaving.specs.Pass.{standing, Flagged}

-- the corner x, or the new one where it is the old
abbrev pub instead : ℕ → ℕ → ℕ → ℕ
instead old new x = cond (eqb x old) new x

-- face f of a room
abbrev pub face_at : List ℕ → ℕ → Face
face_at xs f = record { a = get_or xs (3 * f) 0; b = get_or xs (3 * f + 1) 0; c = get_or xs (3 * f + 2) 0; origin = f }

-- the corners of face f are what h makes of it, and nothing else is changed
pub record FaceChanged (h : Face → Face) (f : ℕ) (xs xs' : List ℕ) : Type 0 where
  pub only : Only (3 * f) 3 xs xs'
  pub first : get_or xs' (3 * f) 0 ≡ (h (face_at xs f)).a
  pub second : get_or xs' (3 * f + 1) 0 ≡ (h (face_at xs f)).b
  pub third : get_or xs' (3 * f + 2) 0 ≡ (h (face_at xs f)).c

-- the faces fs of the F that stand have the new point for the old one, and nothing else is changed
pub record TakenOver (fs : List ℕ) (old new F : ℕ) (xs xs' : List ℕ) : Type 0 where
  pub only : Only 0 (3 * F) xs xs'
  pub faces : standing xs' F ≡ map (λ g. cond (has g.origin fs) (renamed (instead old new) g) g) (standing xs F)
  pub inside : (k : ℕ) → new < k → ((i : ℕ) → i < 3 * F → get_or xs i 0 < k) → (i : ℕ) → i < 3 * F → get_or xs' i 0 < k

-- The bench b of P points and F faces stands in the rooms: its n points at the front of ps; its faces are those of the F at the front of xs, each its
-- own origin, that no flag in w says are gone; and the points that it names unused are flagged behind them.
pub record Stands (P F : ℕ) (b : Bench) (ps : List Float) (n : ℕ) (xs w : List ℕ) : Type 0 where
  pub points_fit : 3 * (P + 3 * F) ≤ length ps
  pub faces_fit : 3 * F ≤ length xs
  pub work_fit : F + 2 * (P + 3 * F) ≤ length w
  pub splits : n ≡ P + b.splits
  pub most : n ≤ P + 3 * F
  pub inside : (i : ℕ) → i < 3 * F → get_or xs i 0 < n
  pub points : b.points ≡ points_of (take (3 * n) ps)
  pub gone : ℕ → Bool
  pub flags : Flagged w 0 F gone
  pub faces : b.faces ≡ filter (λ g. not (gone g.origin)) (standing xs F)
  pub named : Flagged w F (P + 3 * F) (λ v. has v b.unused)
