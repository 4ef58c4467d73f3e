-- The loops that add up the lines of the faces. Assumes nothing.
use mathlib.Core.Path.{◌≡◌, sym, ap₂, ◌∙◌}
use mathlib.Core.List.{[], ◌∷◌}
use Prim.Native.Nat.{ℕ, suc, ◌+◌, ◌*◌, ◌≤◌, ◌<◌}
use native.Mathlib.Omega.{arith}
use native.Mathlib.Numerals.{add-one}
use Rattle.rules.specs.Lists.{below}
use Rattle.fan_laws.specs.Sums.{sum_of}
use Rattle.fan_laws.proofs.Sums.{sum_append}
use Rattle.searched_lines.specs.Lines.{SumGives}

-- one number more
pub sum_next : (g : ℕ → ℕ) (n : ℕ) → sum_of g (below (suc n)) ≡ sum_of g (below n) + g n
unfolding below
sum_next g n = sum_append g (below n) (n ∷ []) ∙ unfold sum_of in (omega arith)

-- the faces below f are added up
pub record Summed (g : ℕ → ℕ) (F r f : ℕ) : Type 0 where
  pub most : f ≤ F
  pub is : r ≡ sum_of g (below f)
  pub few : r ≤ 25 * f

pub sum_begin : (g : ℕ → ℕ) (F : ℕ) → Summed g F 0 0
sum_begin g F = record { most = omega arith; is = unfold sum_of below in (omega arith); few = omega arith }

module _ {g : ℕ → ℕ} {F r f : ℕ} (v : Summed g F r f) where
  pub sum_again : f < F → {k : ℕ} → k ≡ g f → g f ≤ 25 → Summed g F (r + k) (f + 1)
  sum_again h {k} e b =
      record {
        most = omega arith;
        is = rw (add-one f) (ap₂ (λ (x y : ℕ). x + y) v.is e ∙ sym (sum_next g f));
        few = omega (arith, v.few, e, b);
      }

  pub sum_done : F ≤ f → SumGives g F r
  sum_done h = let e : f ≡ F = omega (arith, v.most) in record { is = rw (← e) v.is; few = omega (arith, v.few, e) }
