-- The laws of `tally`: a store, a swap, two regions in a row, a region that stays, a value that is there or not. Assumes nothing.
use mathlib.Core.Path.{◌≡◌, refl, sym, ap, ◌∙◌}
use mathlib.Core.List.{List}
use Prim.Native.Nat.{ℕ, zero, suc, ◌+◌, ◌≤◌, ◌<◌}
use native.Mathlib.Nat.{add-suc, add-zero, add_assoc}
use native.Mathlib.Omega.{arith}
use native.Mathlib.Decide.{ℕ_discrete}
use borrow.Author.Tests.{eq-eqb, ne_eqb}
use lib.ListN.{length, get_or, set, length-set}
use lib.Seq.{get_or-set_same, get_or-set_other}
use Rattle.rows.specs.Region.{Only, Apart}
use Rattle.rows.proofs.Regions.{kept_at}
use Rattle.halves.specs.Split.{hit, tally}

-- a value is itself
pub hit_same : (x : ℕ) → hit x x ≡ 1
unfolding hit
hit_same x = rw (eq-eqb x x refl)

-- and no other
pub hit_other : (y x : ℕ) → (y ≡ x → ⊥) → hit y x ≡ 0
unfolding hit
hit_other y x n = rw (ne_eqb y x n)

-- no entries
pub tally_zero : (a : List ℕ) (s x : ℕ) → tally a s 0 x ≡ 0
unfolding tally
tally_zero a s x = refl

-- one more entry
pub tally_suc : (a : List ℕ) (s n x : ℕ) → tally a s (suc n) x ≡ tally a s n x + hit (get_or a (s + n) 0) x
unfolding tally
tally_suc a s n x = refl

-- regions with the same entries
pub tally_eq : (a b : List ℕ) (s t n x : ℕ) → ((i : ℕ) → i < n → get_or a (s + i) 0 ≡ get_or b (t + i) 0) → tally a s n x ≡ tally b t n x
tally_eq a b s t zero x e = tally_zero a s x ∙ sym (tally_zero b t x)
tally_eq a b s t (suc n) x e = tally_suc a s n x ∙ cc (tally_eq a b s t n x (λ i l. e i (omega arith)), e n (omega arith)) ∙ sym (tally_suc b t n x)

-- a region that a step keeps
pub tally_kept : {a n : ℕ} {w w' : List ℕ} → Only a n w w' → (b m x : ℕ) → Apart b m a n → tally w' b m x ≡ tally w b m x
tally_kept {a} {n} {w} {w'} p b m x t = tally_eq w' w b b m x (kept_at p t)

-- two regions in a row
pub tally_add : (a : List ℕ) (s n m x : ℕ) → tally a s (n + m) x ≡ tally a s n x + tally a (s + n) m x
tally_add a s n zero x = rw (add-zero) (omega (arith, tally_zero a (s + n) x))
tally_add a s n (suc m) x = rw (add-suc n m) (omega (arith, tally_suc a s (n + m) x, tally_suc a (s + n) m x, tally_add a s n m x, ap (λ (j : ℕ). hit (get_or a j 0) x) (add_assoc s n m)))

-- a value that stands nowhere, and one that stands somewhere
pub tally_none : (a : List ℕ) (s n x : ℕ) → ((i : ℕ) → i < n → get_or a (s + i) 0 ≡ x → ⊥) → tally a s n x ≡ 0
tally_none a s zero x h = tally_zero a s x
tally_none a s (suc n) x h = omega (arith, tally_suc a s n x, tally_none a s n x (λ i l. h i (omega arith)), hit_other (get_or a (s + n) 0) x (h n (omega arith)))

-- a value that stands somewhere
pub tally_some : (a : List ℕ) (s n i : ℕ) → i < n → 0 < tally a s n (get_or a (s + i) 0)
tally_some a s zero i h = omega arith
tally_some a s (suc n) i h = go (ℕ_discrete i n) (λ l. tally_some a s n i l)
  where
    go : Dec (i ≡ n) → (i < n → 0 < tally a s n (get_or a (s + i) 0)) → 0 < tally a s (suc n) (get_or a (s + i) 0)
    go (yes e) r = rw e (omega (arith, tally_suc a s n (get_or a (s + n) 0), hit_same (get_or a (s + n) 0)))
    go (no e) r = omega (arith, tally_suc a s n (get_or a (s + i) 0), r (omega arith))

-- a store in the region
pub tally_set : (a : List ℕ) (s n i v x : ℕ) → i < n → s + n ≤ length a → tally (set a (s + i) v) s n x + hit (get_or a (s + i) 0) x ≡ tally a s n x + hit v x
tally_set a s zero i v x h l = omega arith
tally_set a s (suc n) i v x h l = go (ℕ_discrete i n) (λ q. tally_set a s n i v x q (omega arith))
  where
    go : Dec (i ≡ n) → (i < n → tally (set a (s + i) v) s n x + hit (get_or a (s + i) 0) x ≡ tally a s n x + hit v x) → tally (set a (s + i) v) s (suc n) x + hit (get_or a (s + i) 0) x ≡ tally a s (suc n) x + hit v x
    go (yes e) r =
        let t : tally (set a (s + i) v) s n x ≡ tally a s n x = tally_eq (set a (s + i) v) a s s n x (λ j q. get_or-set_other a (s + i) (s + j) v 0 (omega arith)) in
        let g : get_or (set a (s + i) v) (s + n) 0 ≡ v = ap (λ (j : ℕ). get_or (set a (s + i) v) (s + j) 0) (sym e) ∙ get_or-set_same a (s + i) v 0 (omega arith) in
        omega (arith, tally_suc (set a (s + i) v) s n x, tally_suc a s n x, t, ap (λ (y : ℕ). hit y x) g, ap (λ (j : ℕ). hit (get_or a (s + j) 0) x) e)
    go (no e) r =
        let g : get_or (set a (s + i) v) (s + n) 0 ≡ get_or a (s + n) 0 = get_or-set_other a (s + i) (s + n) v 0 (omega arith) in
        omega (arith, tally_suc (set a (s + i) v) s n x, tally_suc a s n x, r (omega arith), ap (λ (y : ℕ). hit y x) g)

-- an entry at m in a list where i took m's value
pub at_swap : (a : List ℕ) (s i m : ℕ) → s + i < length a → get_or (set a (s + i) (get_or a (s + m) 0)) (s + m) 0 ≡ get_or a (s + m) 0
at_swap a s i m h = go (ℕ_discrete i m)
  where
    go : Dec (i ≡ m) → get_or (set a (s + i) (get_or a (s + m) 0)) (s + m) 0 ≡ get_or a (s + m) 0
    go (yes e) = ap (λ (j : ℕ). get_or (set a (s + i) (get_or a (s + m) 0)) (s + j) 0) (sym e) ∙ get_or-set_same a (s + i) (get_or a (s + m) 0) 0 h
    go (no e) = get_or-set_other a (s + i) (s + m) (get_or a (s + m) 0) 0 (omega arith)

-- two entries exchanged
pub tally_swap : (a : List ℕ) (s n i m x : ℕ) → i < n → m < n → s + n ≤ length a → tally (set (set a (s + i) (get_or a (s + m) 0)) (s + m) (get_or a (s + i) 0)) s n x ≡ tally a s n x
tally_swap a s n i m x h q l =
    let b = set a (s + i) (get_or a (s + m) 0) in
    let lb : length b ≡ length a = length-set a (s + i) (get_or a (s + m) 0) in
    omega (arith, tally_set a s n i (get_or a (s + m) 0) x h l, tally_set b s n m (get_or a (s + i) 0) x q (omega arith), ap (λ (y : ℕ). hit y x) (at_swap a s i m (omega arith)))
