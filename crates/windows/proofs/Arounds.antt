-- The laws of `around` and `previous_of`: the half entries by corners are those by steps. Assumes nothing.
use Rattle.std.proofs.Common.{◌≡◌, ℕ, zero, suc, ◌+◌, ◌-◌, ◌*◌, ◌/◌, ◌%◌, ◌<◌, ◌≤◌, List, length, get_or, sym, refl, ap, ◌∙◌, arith, eq-eqb, ne_eqb}
use native.Mathlib.Decide.{ℕ_discrete}
use Rattle.refuse.specs.Accepted.{Faces}
use Rattle.halves.specs.Split.{hit}
use Rattle.halves.specs.Gather.{next_of, halves}
use Rattle.halves.proofs.Tallies.{hit_same, hit_other}
use Rattle.halves.proofs.Halves.{next_last, next_more, next_in, halves_suc, halves_zero, pair_same}
use Rattle.windows.specs.Around.{previous_of, own, around}

-- before the first corner of a face comes its last
pub previous_first : (i : ℕ) → i % 3 ≡ 0 → previous_of i ≡ i + 2
unfolding previous_of
previous_first i e = rw (eq-eqb (i % 3) 0 e)

-- before any other the one before
pub previous_more : (i : ℕ) → (i % 3 ≡ 0 → ⊥) → previous_of i ≡ i - 1
unfolding previous_of
previous_more i e = rw (ne_eqb (i % 3) 0 e)

-- the corner before is there
pub previous_in : (f : List ℕ) (i : ℕ) → length f % 3 ≡ 0 → i < length f → previous_of i < length f
previous_in f i t h = go (ℕ_discrete (i % 3) 0)
  where
    go : Dec (i % 3 ≡ 0) → previous_of i < length f
    go (yes e) = omega (arith, previous_first i e)
    go (no e) = omega (arith, previous_more i e)

-- two equal values
pub hit_is : (y x : ℕ) → y ≡ x → hit y x ≡ 1
hit_is y x e = rw e (hit_same x)

-- a corner that is v
pub own_same : (a v y x : ℕ) → a ≡ v → own a v y x ≡ hit y x
unfolding own
own_same a v y x e = rw (eq-eqb a v e)

-- one that is not
pub own_other : (a v y x : ℕ) → (a ≡ v → ⊥) → own a v y x ≡ 0
unfolding own
own_other a v y x e = rw (ne_eqb a v e)

-- another value
own_none : (a v y x : ℕ) → (y ≡ x → ⊥) → own a v y x ≡ 0
own_none a v y x n = go (ℕ_discrete a v)
  where
    go : Dec (a ≡ v) → own a v y x ≡ 0
    go (yes e) = own_same a v y x e ∙ hit_other y x n
    go (no e) = own_other a v y x e

-- no corners
pub around_zero : (f : List ℕ) (v x : ℕ) → around f 0 v x ≡ 0
unfolding around
around_zero f v x = refl

-- one corner more
pub around_suc : (f : List ℕ) (i v x : ℕ) → around f (suc i) v x ≡ around f i v x + (own (get_or f i 0) v (2 * get_or f (next_of i) 0) x + own (get_or f i 0) v (2 * get_or f (previous_of i) 0 + 1) x)
unfolding around
around_suc f i v x = refl

-- one that is v
pub around_same : (f : List ℕ) (i v x : ℕ) → get_or f i 0 ≡ v → around f (suc i) v x ≡ around f i v x + (hit (2 * get_or f (next_of i) 0) x + hit (2 * get_or f (previous_of i) 0 + 1) x)
around_same f i v x e = omega (arith, around_suc f i v x, own_same (get_or f i 0) v (2 * get_or f (next_of i) 0) x e, own_same (get_or f i 0) v (2 * get_or f (previous_of i) 0 + 1) x e)

-- one that is not
pub around_other : (f : List ℕ) (i v x : ℕ) → (get_or f i 0 ≡ v → ⊥) → around f (suc i) v x ≡ around f i v x
around_other f i v x e = omega (arith, around_suc f i v x, own_other (get_or f i 0) v (2 * get_or f (next_of i) 0) x e, own_other (get_or f i 0) v (2 * get_or f (previous_of i) 0 + 1) x e)

-- the other end is a point
pub around_none : (f : List ℕ) (P : ℕ) → Faces P f → (i v x : ℕ) → i ≤ length f → P ≤ x / 2 → around f i v x ≡ 0
around_none f P q zero v x h l = around_zero f v x
around_none f P q (suc i) v x h l =
    let n = q.below (next_of i) (next_in f i q.whole (omega arith)) in
    let p = q.below (previous_of i) (previous_in f i q.whole (omega arith)) in
    omega (
      arith,
      around_suc f i v x,
      around_none f P q i v x (omega arith) l,
      own_none (get_or f i 0) v (2 * get_or f (next_of i) 0) x (λ e. omega arith),
      own_none (get_or f i 0) v (2 * get_or f (previous_of i) 0 + 1) x (λ e. omega arith),
    )

module _ (P a b v x : ℕ) (hb : b < P) (hx : x / 2 < P) where
  -- a step that begins at a, seen at v
  own_even : own a v (2 * b) x ≡ hit (2 * (a * P + b)) (2 * (v * P) + x)
  own_even = go (ℕ_discrete a v) (ℕ_discrete (2 * b) x)
    where
      go : Dec (a ≡ v) → Dec (2 * b ≡ x) → own a v (2 * b) x ≡ hit (2 * (a * P + b)) (2 * (v * P) + x)
      go (yes e) (yes g) =
          let m = ap (λ (z : ℕ). z * P) e in
          own_same a v (2 * b) x e ∙ hit_is (2 * b) x g ∙ sym (hit_is (2 * (a * P + b)) (2 * (v * P) + x) (omega arith))
      go (yes e) (no g) =
          let m = ap (λ (z : ℕ). z * P) e in
          own_none a v (2 * b) x g ∙ sym (hit_other (2 * (a * P + b)) (2 * (v * P) + x) (λ z. g (omega arith)))
      go (no e) g = own_other a v (2 * b) x e ∙ sym (hit_other (2 * (a * P + b)) (2 * (v * P) + x) (λ z. e (pair_same P a b v (x / 2) hb hx (omega arith)).0))

  -- one that ends at a
  own_odd : own a v (2 * b + 1) x ≡ hit (2 * (a * P + b) + 1) (2 * (v * P) + x)
  own_odd = go (ℕ_discrete a v) (ℕ_discrete (2 * b + 1) x)
    where
      go : Dec (a ≡ v) → Dec (2 * b + 1 ≡ x) → own a v (2 * b + 1) x ≡ hit (2 * (a * P + b) + 1) (2 * (v * P) + x)
      go (yes e) (yes g) =
          let m = ap (λ (z : ℕ). z * P) e in
          own_same a v (2 * b + 1) x e ∙ hit_is (2 * b + 1) x g ∙ sym (hit_is (2 * (a * P + b) + 1) (2 * (v * P) + x) (omega arith))
      go (yes e) (no g) =
          let m = ap (λ (z : ℕ). z * P) e in
          own_none a v (2 * b + 1) x g ∙ sym (hit_other (2 * (a * P + b) + 1) (2 * (v * P) + x) (λ z. g (omega arith)))
      go (no e) g = own_other a v (2 * b + 1) x e ∙ sym (hit_other (2 * (a * P + b) + 1) (2 * (v * P) + x) (λ z. e (pair_same P a b v (x / 2) hb hx (omega arith)).0))

module _ (f : List ℕ) (P : ℕ) (q : Faces P f) (v x : ℕ) (hx : x / 2 < P) where
  -- the three corners of a face have the half entries of its three steps
  face :
      (i : ℕ) → suc (suc i) < length f → next_of i ≡ suc i → next_of (suc i) ≡ suc (suc i) → next_of (suc (suc i)) ≡ i
      → previous_of i ≡ suc (suc i) → previous_of (suc i) ≡ i → previous_of (suc (suc i)) ≡ suc i
      → around f i v x ≡ halves f P i (2 * (v * P) + x) → around f (suc (suc (suc i))) v x ≡ halves f P (suc (suc (suc i))) (2 * (v * P) + x)
  face i h n₀ n₁ n₂ p₀ p₁ p₂ r =
      let a = get_or f i 0 in
      let A = q.below i (omega arith) in
      let B = q.below (suc i) (omega arith) in
      let C = q.below (suc (suc i)) h in
      let s₀ = rw (n₀, p₀) at (around_suc f i v x) in
      let s₁ = rw (n₁, p₁) at (around_suc f (suc i) v x) in
      let s₂ = rw (n₂, p₂) at (around_suc f (suc (suc i)) v x) in
      let t₀ = rw n₀ at (halves_suc f P i (2 * (v * P) + x)) in
      let t₁ = rw n₁ at (halves_suc f P (suc i) (2 * (v * P) + x)) in
      let t₂ = rw n₂ at (halves_suc f P (suc (suc i)) (2 * (v * P) + x)) in
      omega (
        arith,
        own_even P (get_or f i 0) (get_or f (suc i) 0) v x B hx,
        own_even P (get_or f (suc i) 0) (get_or f (suc (suc i)) 0) v x C hx,
        own_even P (get_or f (suc (suc i)) 0) (get_or f i 0) v x A hx,
        own_odd P (get_or f i 0) (get_or f (suc (suc i)) 0) v x C hx,
        own_odd P (get_or f (suc i) 0) (get_or f i 0) v x A hx,
        own_odd P (get_or f (suc (suc i)) 0) (get_or f (suc i) 0) v x B hx,
      )

  -- so those of t faces
  same : (t : ℕ) → 3 * t ≤ length f → around f (3 * t) v x ≡ halves f P (3 * t) (2 * (v * P) + x)
  same zero h = around_zero f v x ∙ sym (halves_zero f P (2 * (v * P) + x))
  same (suc t) h =
      let w = q.whole in
      let e : 3 * suc t ≡ suc (suc (suc (3 * t))) = omega arith in
      let m₀ : 3 * t % 3 ≡ 0 = omega arith in
      let m₁ : suc (3 * t) % 3 ≡ 1 = omega arith in
      let m₂ : suc (suc (3 * t)) % 3 ≡ 2 = omega arith in
      rw e (face (3 * t) (omega arith)
      (omega (arith, next_more (3 * t) (λ z. omega arith)))
      (omega (arith, next_more (suc (3 * t)) (λ z. omega arith)))
      (omega (arith, next_last (suc (suc (3 * t))) m₂))
      (omega (arith, previous_first (3 * t) m₀))
      (omega (arith, previous_more (suc (3 * t)) (λ z. omega arith)))
      (omega (arith, previous_more (suc (suc (3 * t))) (λ z. omega arith)))
      (same t (omega arith)))

  -- and of all
  pub around_halves : around f (length f) v x ≡ halves f P (length f) (2 * (v * P) + x)
  around_halves =
      let w = q.whole in
      let e : 3 * (length f / 3) ≡ length f = omega arith in
      ap (λ (n : ℕ). around f n v x) (sym e) ∙ same (length f / 3) (omega arith) ∙ ap (λ (n : ℕ). halves f P n (2 * (v * P) + x)) e
