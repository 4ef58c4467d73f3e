-- The laws of `halves` and `next_of`. Assumes nothing.
use mathlib.Core.Path.{◌≡◌, refl, sym, ap, ◌∙◌}
use mathlib.Core.List.{List}
use Prim.Native.Nat.{ℕ, zero, suc, ◌+◌, ◌-◌, ◌*◌, ◌/◌, ◌%◌, ◌≤◌, ◌<◌}
use native.Mathlib.Nat.{mul-le-mul, mul-add-div_right, div-eq_of_lt, add-zero}
use native.Mathlib.Omega.{arith}
use native.Mathlib.Decide.{ℕ_discrete}
use borrow.Author.Tests.{eq-eqb, ne_eqb}
use lib.ListN.{length, get_or}
use Rattle.refuse.specs.Accepted.{Faces}
use Rattle.halves.specs.Split.{hit}
use Rattle.halves.specs.Gather.{next_of, halves}
use Rattle.halves.proofs.Tallies.{hit_same, hit_other}

-- a bound of a product
pub bound : (A B : ℕ) {a b : ℕ} → a ≤ A → b ≤ B → a * b ≤ A * B
bound A B h k = mul-le-mul h k

-- after the last corner of a face comes its first
pub next_last : (i : ℕ) → i % 3 ≡ 2 → next_of i ≡ i - 2
unfolding next_of
next_last i e = rw (eq-eqb (i % 3) 2 e)

-- after any other the next
pub next_more : (i : ℕ) → (i % 3 ≡ 2 → ⊥) → next_of i ≡ i + 1
unfolding next_of
next_more i e = rw (ne_eqb (i % 3) 2 e)

-- the next corner is there
pub next_in : (f : List ℕ) (i : ℕ) → length f % 3 ≡ 0 → i < length f → next_of i < length f
next_in f i t h = go (ℕ_discrete (i % 3) 2)
  where
    go : Dec (i % 3 ≡ 2) → next_of i < length f
    go (yes e) = omega (arith, next_last i e)
    go (no e) = omega (arith, next_more i e)

-- one more step has two half entries
pub halves_suc : (f : List ℕ) (P i x : ℕ) → halves f P (suc i) x ≡ halves f P i x + (hit (2 * (get_or f i 0 * P + get_or f (next_of i) 0)) x + hit (2 * (get_or f (next_of i) 0 * P + get_or f i 0) + 1) x)
unfolding halves
halves_suc f P i x = refl

-- no steps have none
pub halves_zero : (f : List ℕ) (P x : ℕ) → halves f P 0 x ≡ 0
unfolding halves
halves_zero f P x = refl

-- more steps have no fewer
pub halves_more : (f : List ℕ) (P i d x : ℕ) → halves f P i x ≤ halves f P (i + d) x
halves_more f P i zero x = rw (add-zero) (omega arith)
halves_more f P i (suc d) x = let e : i + suc d ≡ suc (i + d) = omega arith in rw e (omega (arith, halves_suc f P (i + d) x, halves_more f P i d x))

-- a pair below P is known by its key
pub pair_same : (P x y z w : ℕ) → y < P → w < P → x * P + y ≡ z * P + w → (x ≡ z) × (y ≡ w)
pair_same P x y z w h k e =
    let p : 0 < P = omega arith in
    let l = mul-add-div_right p x y in
    let r = mul-add-div_right p z w in
    let d = ap (λ (n : ℕ). n / P) e in
    let a = div-eq_of_lt h in
    let b = div-eq_of_lt k in
    let f : x ≡ z = omega arith in
    let g = ap (λ (n : ℕ). n * P) f in
    (f, omega arith)

module _ (P f t v u : ℕ) (hf : f < P) (ht : t < P) (hv : v < P) (hu : u < P) where
  -- a step is seen from both its ends
  hit_sym : hit (2 * (f * P + t)) (2 * (v * P + u)) ≡ hit (2 * (t * P + f) + 1) (2 * (u * P + v) + 1)
  hit_sym = go (ℕ_discrete f v) (ℕ_discrete t u)
    where
      none : ((f ≡ v) × (t ≡ u) → ⊥) → hit (2 * (f * P + t)) (2 * (v * P + u)) ≡ hit (2 * (t * P + f) + 1) (2 * (u * P + v) + 1)
      none n =
          hit_other (2 * (f * P + t)) (2 * (v * P + u)) (λ e. let q = pair_same P f t v u ht hu (omega arith) in n q)
          ∙ sym (hit_other (2 * (t * P + f) + 1) (2 * (u * P + v) + 1) (λ e. let q = pair_same P t f u v hf hv (omega arith) in n (q.1, q.0)))

      go : Dec (f ≡ v) → Dec (t ≡ u) → hit (2 * (f * P + t)) (2 * (v * P + u)) ≡ hit (2 * (t * P + f) + 1) (2 * (u * P + v) + 1)
      go (yes a) (yes b) = rw (a, b) (hit_same (2 * (v * P + u)) ∙ sym (hit_same (2 * (u * P + v) + 1)))
      go (no a) b = none (λ q. a q.0)
      go (yes a) (no b) = none (λ q. b q.1)

-- a step from v to u is seen from both its ends
pub halves_sym : (g : List ℕ) (P : ℕ) → Faces P g → (i v u : ℕ) → i ≤ length g → v < P → u < P → halves g P i (2 * (v * P + u)) ≡ halves g P i (2 * (u * P + v) + 1)
halves_sym g P q zero v u h hv hu = halves_zero g P (2 * (v * P + u)) ∙ sym (halves_zero g P (2 * (u * P + v) + 1))
halves_sym g P q (suc i) v u h hv hu =
    let n = next_in g i q.whole (omega arith) in
    let f = get_or g i 0 in
    let t = get_or g (next_of i) 0 in
    omega (
      arith,
      halves_suc g P i (2 * (v * P + u)),
      halves_suc g P i (2 * (u * P + v) + 1),
      halves_sym g P q i v u (omega arith) hv hu,
      hit_sym P (get_or g i 0) (get_or g (next_of i) 0) v u (q.below i (omega arith)) (q.below (next_of i) n) hv hu,
      hit_other (2 * (get_or g (next_of i) 0 * P + get_or g i 0) + 1) (2 * (v * P + u)) (λ e. omega arith),
      hit_other (2 * (get_or g i 0 * P + get_or g (next_of i) 0)) (2 * (u * P + v) + 1) (λ e. omega arith),
    )
