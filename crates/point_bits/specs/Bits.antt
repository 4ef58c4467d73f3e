-- A row of bits, 32 to an entry. Definitions only.
use Rattle.std.specs.Prelude.{◌≡◌, Bool, ◌||◌, List, ℕ, ◌/◌, ◌%◌, ◌^◌, eqb, length, get_or}

-- bit v is set
unfoldable pub bit : List ℕ → ℕ → Bool
bit w v = eqb (get_or w (v / 32) 0 / 2 ^ (v % 32) % 2) 1

-- bit v and those that were set before
pub record SetGives (w : List ℕ) (v : ℕ) (w' : List ℕ) : Type 0 where
  pub long : length w' ≡ length w
  pub told : (u : ℕ) → bit w' u ≡ (eqb u v || bit w u)
