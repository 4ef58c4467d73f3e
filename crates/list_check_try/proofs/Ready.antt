-- Two faces over few points. Assumes nothing.
use mathlib.Core.Path.{◌≡◌, refl}
use mathlib.Core.List.{List, [], ◌∷◌}
use Prim.Native.Nat.{ℕ, zero, suc, ◌<◌, ◌≤◌}
use native.Mathlib.Omega.{arith}
use lib.ListN.{length, get_or}
use Rattle.refuse.specs.Accepted.{Faces}

-- the faces 0 1 2 and 0 3 4
pub two_faces : (P : ℕ) → 5 ≤ P → P ≤ 7 → Faces P (0 ∷ 1 ∷ 2 ∷ 0 ∷ 3 ∷ 4 ∷ [])
two_faces P h l = record { whole = refl; few = omega arith; points = omega arith; below = below }
  where
    below : (j : ℕ) → j < 6 → get_or (0 ∷ 1 ∷ 2 ∷ 0 ∷ 3 ∷ 4 ∷ []) j 0 < P
    below zero q = omega arith
    below (suc zero) q = omega arith
    below (suc (suc zero)) q = omega arith
    below (suc (suc (suc zero))) q = omega arith
    below (suc (suc (suc (suc zero)))) q = omega arith
    below (suc (suc (suc (suc (suc zero))))) q = omega arith
    below (suc (suc (suc (suc (suc (suc j)))))) q = absurd (omega arith)
