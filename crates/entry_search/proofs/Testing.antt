-- What the tests of steps say, one after the other. Assumes nothing.
use mathlib.Core.Path.{◌≡◌, refl, ◌∙◌}
use mathlib.Core.Bool.{Bool, true, false, cond}
use Prim.Native.Nat.{ℕ, ◌≤◌}
use native.Mathlib.Omega.{arith}
use Rattle.rules.specs.Steps.{Step, step, opposite, same}
use Rattle.entry_search.specs.Searching.{along}
use Rattle.entry_search.proofs.Entries.{along_is}

-- ---- along a step

module _ (d : Bool) (t s : Step) {q : Bool} (e : q ≡ same t s) where
  pub along_back : q ≡ false → d ≡ false → {r : Bool} → r ≡ same (step t.to t.from) s → r ≡ along d t s
  along_back h k g = g ∙ rw (along_is d t s, ← e, h, k) (unfold opposite in refl)

-- one or none
pub one_most : (b : Bool) {x : ℕ} → x ≡ cond b 1 0 → x ≤ 1
one_most true e = omega arith
one_most false e = omega arith
