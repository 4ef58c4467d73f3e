-- The lines of pass 6, by the words of the faces: one for each point that no face has. Definitions only.
use Rattle.std.specs.Prelude.{◌≡◌, Bool, ◌&&◌, cond, List, ℕ, ◌+◌, ◌*◌, ◌≤◌}
use Rattle.rules.specs.Lists.{below, has}
use Rattle.rules.specs.Mesh.{corners}
use Rattle.rules.specs.Pass6.{marked6}
use Rattle.rules.specs.Refusal.{most_points}
use Rattle.fan_laws.specs.Sums.{sum_of, field}
use Rattle.face_words.specs.Words.{stands, view, viewed}
use Rattle.face_words.specs.Views.{Worded}

-- face g stands and has v
unfoldable pub holds_at : List ℕ → List ℕ → ℕ → ℕ → Bool
holds_at xs w v g = stands w g && has v (corners (view xs w g))

-- the line of point v
unfoldable pub unused_line : List ℕ → List ℕ → ℕ → ℕ
unused_line xs w v = cond (marked6 (viewed xs w) v) (2 + field v) 0

-- words of faces over P points
pub record UnusedAsks (xs w : List ℕ) (P : ℕ) : Type 0 where
  pub worded : Worded xs w
  pub few : P ≤ most_points

-- the bytes of the lines
pub record UnusedGives (xs w : List ℕ) (P r : ℕ) : Type 0 where
  pub is : r ≡ sum_of (unused_line xs w) (below P)
  pub few : r ≤ 13 * P
