-- The loop that writes the empty records. Assumes nothing.
use mathlib.Core.Path.{◌≡◌, ◌∙◌}
use mathlib.Core.List.{List}
use Prim.Native.Nat.{ℕ, ◌+◌, ◌*◌, ◌≤◌, ◌<◌}
use native.Mathlib.Omega.{arith}
use native.Mathlib.Decide.{dec_lt}
use lib.ListN.{length}
use lib.Ieee.{Float, nan}
use Rattle.rows.specs.Region.{OnlyOf}
use Rattle.rows.proofs.Regions.{only_none, only_both, only_more}
use Rattle.rules.specs.Patches as rule
use Rattle.patch_sums.specs.Sums.{record_at, BeginAsks, BeginGives}
use Rattle.patch_sums.proofs.Seven.{record_kept}

-- the first k records are r
pub record Begun (xs₀ : List Float) (C : ℕ) (r : rule.Patch) (xs : List Float) (k : ℕ) : Type 0 where
  pub at_most : k ≤ C
  pub only : OnlyOf nan 0 (7 * C) xs₀ xs
  pub each : (j : ℕ) → j < k → record_at xs j ≡ r

module _ {xs₀ : List Float} {C : ℕ} (p : BeginAsks xs₀ C) {r : rule.Patch} where
  -- none yet
  pub begin : Begun xs₀ C r xs₀ 0
  begin = record { at_most = omega arith; only = only_none 0 (7 * C) xs₀; each = λ j h. absurd (omega arith) }

  module _ {xs : List Float} {k : ℕ} (v : Begun xs₀ C r xs k) where
    -- the next one fits
    pub turn : k < C → 7 * k + 7 ≤ length xs
    turn h = omega (arith, p.fit, v.only.long)

    -- one more
    pub again : k < C → {xs' : List Float} → OnlyOf nan (7 * k) 7 xs xs' → record_at xs' k ≡ r → Begun xs₀ C r xs' (k + 1)
    again h {xs'} o e =
        record { at_most = omega arith; only = only_both v.only (only_more (omega arith) (omega arith) o); each = λ j l. go j l (dec_lt j k) }
      where
        go : (j : ℕ) → j < k + 1 → Dec (j < k) → record_at xs' j ≡ r
        go j l (yes b) = record_kept k j o (omega arith) ∙ v.each j b
        go j l (no b) = let q : j ≡ k = omega arith in rw q e

    -- all of them
    pub done : C ≤ k → r ≡ rule.empty → BeginGives xs₀ C xs
    done h e = record { only = v.only; empty = λ j l. v.each j (omega arith) ∙ e }
