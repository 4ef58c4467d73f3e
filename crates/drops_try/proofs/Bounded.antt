-- That each of the first n entries of a row is below a bound, computed. Assumes nothing.
use mathlib.Core.Path.{◌≡◌, refl, sym}
use mathlib.Core.Logic.{⊎_elim}
use mathlib.Core.Bool.{Bool, true, false, ◌&&◌, true≢false}
use mathlib.Core.List.{List}
use Prim.Native.Nat.{ℕ, zero, suc, ◌<◌}
use native.Mathlib.Nat.{eq-or-lt_of_le, le_of_suc-le-suc, not-suc-le-zero}
use borrow.Author.Tests.{ltb-true}
use lib.Dec.{ltb}
use lib.ListN.{get_or}

-- each of the first n entries is below k
abbrev pub within : List ℕ → ℕ → ℕ → Bool
within xs zero k = true
within xs (suc n) k = ltb (get_or xs n 0) k && within xs n k

-- both tests are true where their conjunction is
both : (a b : Bool) → (a && b) ≡ true → (a ≡ true) × (b ≡ true)
both true b e = (refl, e)
both false b e = absurd (true≢false (sym e))

-- so each entry is below k
pub bounded : (xs : List ℕ) (n k : ℕ) → within xs n k ≡ true → (i : ℕ) → i < n → get_or xs i 0 < k
bounded xs zero k e i h = absurd (not-suc-le-zero h)
bounded xs (suc n) k e i h =
    let b = both (ltb (get_or xs n 0) k) (within xs n k) e in
    ⊎_elim (λ (s : i ≡ n). rw s (ltb-true (get_or xs n 0) k b.0)) (λ (l : i < n). bounded xs n k b.1 i l) (eq-or-lt_of_le (le_of_suc-le-suc h))
