-- The filter that a mask and five numbers say, limit by limit. Assumes nothing.
use mathlib.Core.Path.{◌≡◌}
use mathlib.Core.Bool.{Bool}
use Prim.Native.Nat.{ℕ}
use lib.Ieee.{Float}
use Rattle.rules.specs.Patches.{Limit}
use Rattle.patch_mask.specs.Mask.{set, held, masked}

-- each limit is the one that its bit says
module _ (limits n : ℕ) (x y z : Float) (m : ℕ) where
  pub masked_is :
      {a : Limit ℕ} {b c d : Limit Float} {e : Limit ℕ} → a ≡ held (set limits 1) n → b ≡ held (set limits 2) x → c ≡ held (set limits 4) y
      → d ≡ held (set limits 8) z → e ≡ held (set limits 16) m
      → record { min_faces = a; min_area = b; min_diagonal = c; min_fraction = d; keep_largest = e } ≡ masked limits n x y z m
  masked_is ea eb ec ed ee = rw (ea, eb, ec, ed, ee)
