-- What a scan from the front gives: the first place where a test is true. Assumes nothing.
use mathlib.Core.Path.{◌≡◌}
use mathlib.Core.Logic.{◌⊎◌, inl, inr}
use mathlib.Core.Bool.{Bool, true, false, not, ◌&&◌}
use Prim.Native.Nat.{ℕ, ◌≤◌, ◌<◌}
use native.Mathlib.Omega.{arith}
use borrow.Author.Tests.{eq-eqb, ne_eqb, le-leb, lt-leb}
use lib.Dec.{eqb, leb}
use Rattle.refuse.proofs.Scans.{Clean}
use Rattle.boundary.specs.Rows.{NoneOf, FirstAt}

module _ {at : ℕ → Bool} {n i : ℕ} (v : Clean at n i) where
  -- the scan stops at i
  pub first_at : i < n → at i ≡ true → FirstAt at n i
  first_at h e = record { within = h; before = record { none = v.none }; found = e }

  -- it comes to the end
  pub first_none : n ≤ i → NoneOf at n
  first_none h = record { none = λ j l. v.none j (omega arith) }

module _ (b e : ℕ) where
  -- a vertex that begins another number than it ends, or more than one, is at fault
  pub fault_some : (b ≡ e → ⊥) ⊎ ((b ≡ e) × (1 < b)) → not (eqb b e && leb b 1) ≡ true
  fault_some (inl n) = rw (ne_eqb b e n)
  fault_some (inr q) = rw (eq-eqb b e q.0, lt-leb b 1 q.1)

  -- any other is not
  pub fault_none : b ≡ e → b ≤ 1 → not (eqb b e && leb b 1) ≡ false
  fault_none q h = rw (eq-eqb b e q, le-leb b 1 h)
