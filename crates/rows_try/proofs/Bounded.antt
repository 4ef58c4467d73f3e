-- That each entry of a region is below a bound, computed. Assumes nothing.
use mathlib.Core.Path.{◌≡◌, refl, sym}
use mathlib.Core.Logic.{⊎_elim}
use mathlib.Core.Bool.{Bool, true, false, ◌&&◌, true≢false}
use mathlib.Core.List.{List}
use Prim.Native.Nat.{ℕ, zero, suc, ◌+◌, ◌<◌}
use native.Mathlib.Nat.{eq-or-lt_of_le, le_of_suc-le-suc}
use native.Mathlib.Omega.{arith}
use borrow.Author.Tests.{ltb-true}
use lib.Dec.{ltb}
use lib.ListN.{get_or}

-- each of the n entries from a on is below k
abbrev pub within : List ℕ → ℕ → ℕ → ℕ → Bool
within w a zero k = true
within w a (suc n) k = ltb (get_or w (a + n) 0) k && within w a n k

-- both tests are true where their conjunction is
both : (a b : Bool) → (a && b) ≡ true → (a ≡ true) × (b ≡ true)
both true b e = (refl, e)
both false b e = absurd (true≢false (sym e))

-- so each entry is below k
pub bounded : (w : List ℕ) (a n k : ℕ) → within w a n k ≡ true → (i : ℕ) → i < n → get_or w (a + i) 0 < k
bounded w a zero k e i h = absurd (omega arith)
bounded w a (suc n) k e i h =
    let b = both (ltb (get_or w (a + n) 0) k) (within w a n k) e in
    ⊎_elim (λ (s : i ≡ n). rw s (ltb-true (get_or w (a + n) 0) k b.0)) (λ (l : i < n). bounded w a n k b.1 i l) (eq-or-lt_of_le (le_of_suc-le-suc h))

-- an entry below 1 is 0
pub zeros : (w : List ℕ) (a n : ℕ) → within w a n 1 ≡ true → (i : ℕ) → i < n → get_or w (a + i) 0 ≡ 0
zeros w a n e i h = omega (arith, bounded w a n 1 e i h)
