-- What a pass asks and gives: the faces stand at the front of their room xs, the points at the front of theirs. Definitions only.
use Rattle.std.specs.Prelude.{◌≡◌, Bool, cond, List, ℕ, ◌+◌, ◌*◌, ◌/◌, ◌%◌, ◌≤◌, ◌<◌, length, get_or, take, Float}
use Rattle.rows.specs.Region.{Only, Holds}
use Rattle.rules.specs.Lists.{below, count, leave}
use Rattle.rules.specs.Mesh.{Face, faces_of, faces_with, flat_faces, points_of}
use Rattle.rules.specs.Refusal.{most_points, most_faces}
use Rattle.rules.specs.State.{State}

-- the n faces at the front of the room xs
abbrev pub standing : List ℕ → ℕ → List Face
standing xs n = faces_of (take (3 * n) xs)

-- the same with their origins, which stand at the front of os
abbrev pub carried : List ℕ → List ℕ → ℕ → List Face
carried xs os n = faces_with (take (3 * n) xs) (take n os)

-- the state of a repair, each face its own origin: p points and n faces at the front of their rooms, and a report
abbrev pub state_of : List Float → ℕ → List ℕ → ℕ → List ℕ → State
state_of ps p xs n report = record { points = points_of (take (3 * p) ps); faces = standing xs n; report = report }

-- n faces stand at the front of the room xs, their corners are of the P points, and the work room has the entries that are taken
pub record FacesStand (taken P : ℕ) (xs : List ℕ) (n : ℕ) (w : List ℕ) : Type 0 where
  pub points : P ≤ most_points
  pub few : n ≤ most_faces
  pub fit : 3 * n ≤ length xs
  pub inside : (i : ℕ) → i < 3 * n → get_or xs i 0 < P
  pub room : taken ≤ length w

-- the same over the points ps, which a pass reads
pub record PassAsks (taken : ℕ) (ps : List Float) (xs : List ℕ) (n : ℕ) (w : List ℕ) : Type 0 where
  pub whole : length ps % 3 ≡ 0
  pub stand : FacesStand taken (length ps / 3) xs n w

-- the flags from `marks` on are 1 for what leaves, and 0 for what stays
abbrev pub Flagged : List ℕ → ℕ → ℕ → (ℕ → Bool) → Type 0
Flagged w marks n marked = Holds marks n (λ i. cond (marked i) 1 0) w

-- The n faces are marked: their flags stand from `marks` on, within the `taken` entries of the work room beyond which nothing is changed.
pub record MarkGives (marked : ℕ → Bool) (taken n : ℕ) (w w' : List ℕ) (marks : ℕ) : Type 0 where
  pub within : marks + n ≤ taken
  pub only : Only 0 taken w w'
  pub flags : Flagged w' marks n marked

-- n faces, an origin for each, and a flag for each
pub record LeaveAsks (xs os w : List ℕ) (marks n : ℕ) : Type 0 where
  pub faces_fit : 3 * n ≤ length xs
  pub origins_fit : n ≤ length os
  pub flags_fit : marks + n ≤ length w

-- Marked ones of the n faces have left together, with their origins: r stay, in order, at the front. Nothing beyond the n faces is changed.
pub record LeaveGives (marked : ℕ → Bool) (xs os : List ℕ) (n : ℕ) (xs' os' : List ℕ) (r : ℕ) : Type 0 where
  pub faces : take (3 * r) xs' ≡ flat_faces (leave marked (standing xs n))
  pub origins : take r os' ≡ leave marked (take n os)
  pub number : r + count marked (below n) ≡ n
  pub only_faces : Only 0 (3 * n) xs xs'
  pub only_origins : Only 0 n os os'
