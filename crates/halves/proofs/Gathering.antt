-- A half entry more in the buffer, and the two of a step. Assumes nothing.
use mathlib.Core.Path.{◌≡◌, refl, ap, subst, ◌∙◌}
use mathlib.Core.List.{List}
use Prim.Native.Nat.{ℕ, suc, ◌+◌, ◌*◌, ◌/◌, ◌≤◌, ◌<◌}
use native.Mathlib.Nat.{zero-add}
use native.Mathlib.Omega.{arith}
use native.Mathlib.Decide.{ℕ_discrete}
use native.Mathlib.Numerals.{add-one}
use lib.ListN.{length, get_or, set, length-set}
use lib.Seq.{get_or-set_same, get_or-set_other}
use Rattle.halves.specs.Split.{hit, tally}
use Rattle.halves.specs.Walk.{Counts, Inside}
use Rattle.halves.specs.Gather.{Holding, ShrinkAsks, ShrinkGives, PutAsks, PutGives, BothAsks, BothGives}
use Rattle.halves.proofs.Tallies.{hit_other, tally_suc, tally_eq}

module _ (a : List ℕ) (n v : ℕ) (h : n < length a) where
  -- what stood before the new entry stands
  at_old : (i : ℕ) → i < n → get_or (set a n v) (0 + i) 0 ≡ get_or a (0 + i) 0
  at_old i l = get_or-set_other a n (0 + i) v 0 (omega arith)

  -- the new entry
  at_new : get_or (set a n v) (0 + n) 0 ≡ v
  at_new = ap (λ (z : ℕ). get_or (set a n v) z 0) (zero-add n) ∙ get_or-set_same a n v 0 h

  -- one more of its value
  tally_push : (x : ℕ) → tally (set a n v) 0 (suc n) x ≡ tally a 0 n x + hit v x
  tally_push x = omega (arith, tally_suc (set a n v) 0 n x, tally_eq (set a n v) a 0 0 n x at_old, ap (λ (z : ℕ). hit z x) at_new)

  -- all are in the range still
  inside_push : (from to : ℕ) → Inside a 0 n from to → from ≤ v / 2 → v / 2 < to → Inside (set a n v) 0 (suc n) from to
  inside_push from to p l u = record { low = λ i q. low i q (ℕ_discrete i n); high = λ i q. high i q (ℕ_discrete i n) }
    where
      low : (i : ℕ) → i < suc n → Dec (i ≡ n) → from ≤ get_or (set a n v) (0 + i) 0 / 2
      low i q (yes e) = rw (e, at_new) l
      low i q (no e) = rw (at_old i (omega arith)) (p.low i (omega arith))

      high : (i : ℕ) → i < suc n → Dec (i ≡ n) → get_or (set a n v) (0 + i) 0 / 2 < to
      high i q (yes e) = rw (e, at_new) u
      high i q (no e) = rw (at_old i (omega arith)) (p.high i (omega arith))

module _ {a : List ℕ} {n from to k d : ℕ} (p : PutAsks a n from to k d) where
  -- the key is not in the range
  out : (from ≤ k → k < to → ⊥) → PutGives a n from to k d a n to
  out o =
      let r = p.room in
      let b = p.bit in
      record {
        holding = record { long = refl; above = p.above; within = omega arith; fewer = omega arith; inside = p.inside; full = λ e. absurd (omega arith) };
        counts = λ g q. record { each = λ x l u. omega (arith, q.each x l u, hit_other (2 * k + d) x (λ e. o (omega arith) (omega arith))) };
      }

  -- its key is below the range
  pub put_low : k < from → PutGives a n from to k d a n to
  put_low h = out (λ l u. omega arith)

  -- its key is above it
  pub put_high : to ≤ k → PutGives a n from to k d a n to
  put_high h = out (λ l u. omega arith)

  module _ (l : from ≤ k) (u : k < to) where
    -- in the range it is put last
    inside' : Inside (set a n (2 * k + d)) 0 (suc n) from to
    inside' = let b = p.bit in inside_push a n (2 * k + d) p.room from to p.inside (omega arith) (omega arith)

    -- and counted
    counts' : (g : ℕ → ℕ) → Counts g a 0 n from to → Counts (λ x. g x + hit (2 * k + d) x) (set a n (2 * k + d)) 0 (suc n) from to
    counts' g q = record { each = λ x s t. tally_push a n (2 * k + d) p.room x ∙ ap (λ (z : ℕ). z + hit (2 * k + d) x) (q.each x s t) }

    -- the buffer is as long
    long' : length (set a n (2 * k + d)) ≡ length a
    long' = length-set a n (2 * k + d)

    -- there is room for another
    pub put_more : n + 1 < length (set a n (2 * k + d)) → PutGives a n from to k d (set a n (2 * k + d)) (n + 1) to
    put_more h =
        let e = long' in
        record {
          holding = record { long = e; above = p.above; within = omega arith; fewer = omega arith; inside = rw (add-one n) inside'; full = λ f. absurd (omega arith) };
          counts = λ g q. rw (add-one n) (counts' g q);
        }

    module _ (h : length (set a n (2 * k + d)) ≤ n + 1) where
      -- the buffer is full
      whole : suc n ≡ length (set a n (2 * k + d))
      whole = omega (arith, long', p.room)

      -- so that room is made
      pub shrink_asks : ShrinkAsks (set a n (2 * k + d)) from to
      shrink_asks = record { above = p.above; inside = subst (λ (z : ℕ). Inside (set a n (2 * k + d)) 0 z from to) whole inside' }

      -- and the entry is counted, or left for later
      pub put_shrunk : {a' : List ℕ} {n' to' : ℕ} → ShrinkGives (set a n (2 * k + d)) from to a' n' to' → PutGives a n from to k d a' n' to'
      put_shrunk {a'} {n'} {to'} s =
          record {
            holding = subst (λ (z : ℕ). Holding z from to a' n' to') long' s.holding;
            counts = λ g q. s.counts (λ x. g x + hit (2 * k + d) x) (subst (λ (z : ℕ). Counts (λ x. g x + hit (2 * k + d) x) (set a n (2 * k + d)) 0 z from to) whole (counts' g q));
          }

module _ {a : List ℕ} {n from to P v u : ℕ} (p : BothAsks a n from to P v u) where
  -- the half entry where the step begins
  pub first_asks : PutAsks a n from to (v * P + u) 0
  first_asks = record { room = p.room; above = p.above; inside = p.inside; bit = omega arith; fits = p.fits }

  module _ {a₁ : List ℕ} {n₁ h₁ : ℕ} (g₁ : PutGives a n from to (v * P + u) 0 a₁ n₁ h₁) where
    -- it is even
    even : (x : ℕ) → hit (2 * (v * P + u) + 0) x ≡ hit (2 * (v * P + u)) x
    even x = ap (λ (z : ℕ). hit z x) (omega arith)

    -- one key fills the buffer
    pub both_full : n₁ ≡ length a₁ → BothGives a n from to P v u a₁ n₁ h₁
    both_full e =
        let l = g₁.holding.long in
        record {
          holding = g₁.holding;
          counts = λ q. absurd (omega arith);
          most = λ g q. record { each = λ x s t. omega (arith, (g₁.counts g q).each x s t, even x) };
        }

    -- the half entry where the step ends
    pub second_asks : (n₁ ≡ length a₁ → ⊥) → PutAsks a₁ n₁ from h₁ (u * P + v) 1
    second_asks e =
        let l = g₁.holding.long in
        let f = g₁.holding.fewer in
        record { room = omega arith; above = g₁.holding.above; inside = g₁.holding.inside; bit = omega arith; fits = p.fits' }

    -- both are counted
    pub both_put : {a₂ : List ℕ} {n₂ h₂ : ℕ} → PutGives a₁ n₁ from h₁ (u * P + v) 1 a₂ n₂ h₂ → BothGives a n from to P v u a₂ n₂ h₂
    both_put {a₂} {n₂} {h₂} g₂ =
        let l = g₁.holding.long in
        let w = g₁.holding.within in
        let r = g₂.holding in
        let r₁ = g₂.holding.within in
        let r₂ = g₂.holding.long in
        let r₃ = g₂.holding.fewer in
        record {
          holding = record { long = omega arith; above = r.above; within = omega arith; fewer = omega arith; inside = r.inside; full = λ e. r.full (omega arith) };
          counts = λ q g z. record { each = λ x s t. omega (arith, even x, (g₂.counts (λ y. g y + hit (2 * (v * P + u) + 0) y) (g₁.counts g z)).each x s t) };
          most = λ g z. record { each = λ x s t. omega (arith, even x, (g₂.counts (λ y. g y + hit (2 * (v * P + u) + 0) y) (g₁.counts g z)).each x s t) };
        }
