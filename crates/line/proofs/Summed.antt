-- The numbers that are printed, of which the first is a sum: how many they are, and each of them. Assumes nothing.
use mathlib.Core.Path.{◌≡◌, ◌∙◌}
use mathlib.Core.List.{List, [], ◌∷◌}
use Prim.Native.Nat.{ℕ, zero, suc, ◌+◌, ◌≤◌, ◌<◌}
use native.Mathlib.Numerals.{add-one}
use native.Mathlib.Omega.{arith}
use lib.ListN.{length, get_or}
use Rattle.rules.specs.Line.{summed}

-- one less than the counts: two give way to their sum
pub summed_long : (counts : List ℕ) → 2 ≤ length counts → length (summed counts) + 1 ≡ length counts
unfolding summed
summed_long [] h = absurd (omega arith)
summed_long (r ∷ []) h = absurd (omega arith)
summed_long (r ∷ t ∷ rest) h = omega arith

-- at label 0 stands the sum of the first two counts
pub summed_first : (counts : List ℕ) (k n : ℕ) → 2 ≤ length counts → k ≡ 0 → n ≡ get_or counts 0 0 + get_or counts 1 0 → n ≡ get_or (summed counts) k 0
unfolding summed
summed_first [] k n h z e = absurd (omega arith)
summed_first (r ∷ []) k n h z e = absurd (omega arith)
summed_first (r ∷ t ∷ rest) k n h z e = rw z e

-- and at another label the count behind it
pub summed_behind : (counts : List ℕ) (k n : ℕ) → 2 ≤ length counts → 0 < k → n ≡ get_or counts (k + 1) 0 → n ≡ get_or (summed counts) k 0
unfolding summed
summed_behind [] k n h z e = absurd (omega arith)
summed_behind (r ∷ []) k n h z e = absurd (omega arith)
summed_behind (r ∷ t ∷ rest) zero n h z e = absurd (omega arith)
summed_behind (r ∷ t ∷ rest) (suc k) n h z e = e ∙ rw add-one
