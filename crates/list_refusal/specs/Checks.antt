-- The checks of the call that writes a mending list, and the parts of its work room by their lengths. Definitions only.
use Rattle.std.specs.Prelude.{◌≡◌, Bool, true, false, ℕ, ◌+◌, ◌*◌, ◌≤◌, min, List, ◌++◌, length, Float}
use Rattle.rules.specs.Refusal.{Check}
use Rattle.refuse.specs.Verdicts.{sizes, settings, contents}
use Rattle.refuse.specs.Accepted.{Accepted}

-- 1, 2, 3, 4 and 5, of the rules' `list_check`
abbrev pub input_list : List Float → List ℕ → Float → ℕ → List Check
input_list points faces s options = sizes (length points) (length faces) ++ settings s options ++ contents points faces

-- what is known where these find nothing
pub record InputAccepted (points : List Float) (faces : List ℕ) (options : ℕ) : Type 0 where
  pub input : Accepted points faces
  pub settings : options ≤ 63

-- The one work room comes in three parts: the first 3F entries, the next F, and the others. Of a short one each part is what is left.
pub record Parted (F corners origins rest : ℕ) : Type 0 where
  pub first : corners ≡ min (3 * F) (corners + origins + rest)
  pub second : origins ≡ min F (origins + rest)

-- they are long enough in all
pub record Ready (P F corners origins rest : ℕ) : Type 0 where
  pub corners_are : corners ≡ 3 * F
  pub origins_are : origins ≡ F
  pub rest_fits : 16 * P + 60 * F + 64 ≤ rest

-- a test for it
pub record ReadyTold (P F corners origins rest : ℕ) (r : Bool) : Type 0 where
  pub so : r ≡ true → Ready P F corners origins rest
  pub not_so : r ≡ false → Ready P F corners origins rest → ⊥
