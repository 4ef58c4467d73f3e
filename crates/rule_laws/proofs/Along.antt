-- The steps along a loop end at its vertices, and a walk that is listed reversed. Assumes nothing.
use mathlib.Core.Path.{◌≡◌, refl, sym, ap, ◌∙◌}
use mathlib.Core.Logic.{◌⊎◌, inl, inr, ◌≢◌}
use mathlib.Core.Bool.{Bool, true, false, cond}
use mathlib.Core.List.Memᴰ
use mathlib.Core.List.{List, [], ◌∷◌, map, reverse, reverse-append, Memᴰ, map-append}
use Prim.Native.Nat.{ℕ, zero, suc, ◌≤◌, ◌<◌, zero-le}
use native.Mathlib.Omega.{arith}
use native.Mathlib.Nat.{not-suc-le-zero}
use native.Mathlib.Decide.{ℕ_discrete}
use borrow.Author.Tests.{eqb-true}
use lib.ListN.{length}
use lib.Dec.{T, eqb, eqb→eq}
use Rattle.rules.specs.Lists.{below, filter, count}
use Rattle.rules.specs.Steps.{Step, step}
unfoldable pub use Rattle.rule_laws.proofs.Demand.{along, loop_steps}
use Rattle.rule_laws.proofs.Rising.{All}
use Rattle.rule_laws.proofs.Counting.{count_zero}

-- the steps along a loop end at its vertices, each once
to_along : (z : ℕ) (l : List ℕ) → map (λ s. s.to) (along z l) ≡ l
unfolding along
to_along z [] = refl
to_along z (x ∷ []) = refl
to_along z (x ∷ y ∷ l) = ap (λ k. x ∷ k) (to_along z (y ∷ l))

-- so of a loop
pub to_loop : (l : List ℕ) → map (λ s. s.to) (loop_steps l) ≡ l
unfolding loop_steps
to_loop [] = refl
to_loop (x ∷ l) = to_along x (x ∷ l)

module _ (g : ℕ → ℕ) where
  -- g (n - 1), .., g 1, g 0
  unfoldable pub down : ℕ → List ℕ
  down zero = []
  down (suc n) = g n ∷ down n

  -- the reversed list of g 0 .. g (n - 1)
  pub reverse_down : (n : ℕ) → reverse (map g (below n)) ≡ down n
  unfolding below down
  reverse_down zero = refl
  reverse_down (suc n) =
      ap reverse (map-append g (below n) (n ∷ [])) ∙ reverse-append (map g (below n)) (g n ∷ []) ∙ ap (λ l. g n ∷ l) (reverse_down n)

  -- g j is in it for j below n
  pub mem_down : (n j : ℕ) → j < n → Memᴰ (g j) (down n)
  unfolding down
  mem_down zero j h = absurd (not-suc-le-zero h)
  mem_down (suc n) j h = go (ℕ_discrete j n) (λ l. mem_down n j l)
    where
      go : Dec (j ≡ n) → (j < n → Memᴰ (g j) (down n)) → Memᴰ (g j) (g n ∷ down n)
      go (yes e) r = Memᴰ.head (ap g e)
      go (no ne) r = Memᴰ.tail (r (omega arith))

  -- and nothing else is
  pub down_mem : (n u : ℕ) → Memᴰ u (down n) → (j : ℕ) × (j < n) × (u ≡ g j)
  unfolding down
  down_mem zero u m = absurd (Memᴰ.not-nil m)
  down_mem (suc n) u m = go (Memᴰ.cases_cons m) (λ k. down_mem n u k)
    where
      go : (u ≡ g n) ⊎ Memᴰ u (down n) → (Memᴰ u (down n) → (j : ℕ) × (j < n) × (u ≡ g j)) → (j : ℕ) × (j < suc n) × (u ≡ g j)
      go (inl e) r = (n, omega arith, e)
      go (inr k) r = let w = r k in (w.0, omega (arith, w.1), w.2)

  -- where they differ, each is there once
  pub down_once : (n : ℕ) → ((k l : ℕ) → k < l → l < n → g k ≢ g l) → (u : ℕ) → count (eqb u) (down n) ≤ 1
  unfolding down count filter
  down_once zero apart u = zero-le
  down_once (suc n) apart u = go (eqb u (g n)) refl (down_once n (λ k l h i. apart k l h (omega arith)) u)
    where
      none : eqb u (g n) ≡ true → (x : ℕ) → Memᴰ x (down n) → T (eqb u x) → ⊥
      none e x m t =
          let w = down_mem n x m in
          apart w.0 n w.1 (omega arith) (sym w.2 ∙ sym (eqb→eq u x t) ∙ eqb-true u (g n) e)

      go : (b : Bool) → eqb u (g n) ≡ b → count (eqb u) (down n) ≤ 1 → length (cond b (g n ∷ filter (eqb u) (down n)) (filter (eqb u) (down n))) ≤ 1
      go true e r = let z = count_zero (eqb u) (down n) (none e) in omega arith
      go false e r = r

  -- what holds of each step of the walk, and of the last back to g 0, holds of every step along it
  pub along_down :
      (Q : Step → Type 0) (z n : ℕ) → Q (step z (g 0)) → ((k : ℕ) → k < n → Q (step (g k) (g (suc k)))) → All Q (along z (down (suc n)))
  unfolding along down
  along_down Q z zero q h = (q, tt)
  along_down Q z (suc n) q h = (h n (omega arith), along_down Q z n q (λ k l. h k (omega arith)))
