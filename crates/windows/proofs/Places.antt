-- Where the runs begin, and the counts of corners. Assumes nothing.
use Rattle.std.proofs.Common.{◌≡◌, ℕ, zero, suc, ◌+◌, ◌-◌, ◌*◌, ◌<◌, ◌≤◌, List, length, get_or, set, sym, refl, ap, ◌∙◌, add-zero, add-suc, zero-add, arith, length-set, get_or-set_other, get_or-set_same}
use native.Mathlib.Decide.{ℕ_discrete}
use Rattle.halves.specs.Split.{hit, tally}
use Rattle.halves.proofs.Tallies.{hit_other, tally_zero, tally_suc, tally_eq, tally_add}
use Rattle.windows.specs.Around.{corners_of, start_of, sum_to}
use Rattle.windows.specs.Window.{Counted, begin_of}
use Rattle.windows.proofs.Arounds.{hit_is}

-- one entry more of the first
pub tally_next : (a : List ℕ) (n x : ℕ) → tally a 0 (suc n) x ≡ tally a 0 n x + hit (get_or a n 0) x
tally_next a n x = rw zero-add at (tally_suc a 0 n x)

-- one corner more, which is v
pub corner_same : (f : List ℕ) (i v : ℕ) → get_or f i 0 ≡ v → tally f 0 (suc i) v ≡ suc (tally f 0 i v)
corner_same f i v e = omega (arith, tally_next f i v, hit_is (get_or f i 0) v e)

-- one that is not
pub corner_other : (f : List ℕ) (i v : ℕ) → (get_or f i 0 ≡ v → ⊥) → tally f 0 (suc i) v ≡ tally f 0 i v
corner_other f i v e = omega (arith, tally_next f i v, hit_other (get_or f i 0) v e)

-- all corners are no fewer than some
pub corners_most : (f : List ℕ) (i v : ℕ) → i ≤ length f → tally f 0 i v ≤ corners_of f v
corners_most f i v h =
    let e : i + (length f - i) ≡ length f = omega arith in
    omega (arith, tally_add f 0 i (length f - i) v, ap (λ (n : ℕ). tally f 0 n v) e)

-- no value stands more often than there are entries
pub tally_most : (a : List ℕ) (s n x : ℕ) → tally a s n x ≤ n
tally_most a s zero x = omega (arith, tally_zero a s x)
tally_most a s (suc n) x = go (ℕ_discrete (get_or a (s + n) 0) x) (tally_most a s n x)
  where
    go : Dec (get_or a (s + n) 0 ≡ x) → tally a s n x ≤ n → tally a s (suc n) x ≤ suc n
    go (yes e) r = omega (arith, tally_suc a s n x, hit_is (get_or a (s + n) 0) x e)
    go (no e) r = omega (arith, tally_suc a s n x, hit_other (get_or a (s + n) 0) x e)

-- two entries stored after n
pub tally_end :
    (b : List ℕ) (s n y z x : ℕ) → s + n + 2 ≤ length b
    → tally (set (set b (s + n) y) (s + n + 1) z) s (suc (suc n)) x ≡ tally b s n x + (hit y x + hit z x)
tally_end b s n y z x h =
    let b₁ = set b (s + n) y in
    let b₂ = set b₁ (s + n + 1) z in
    let l : length b₁ ≡ length b = length-set b (s + n) y in
    let k : s + suc n ≡ s + n + 1 = omega arith in
    let g₁ : get_or b₂ (s + n) 0 ≡ y = get_or-set_other b₁ (s + n + 1) (s + n) z 0 (omega arith) ∙ get_or-set_same b (s + n) y 0 (omega arith) in
    let g₂ : get_or b₂ (s + suc n) 0 ≡ z = ap (λ (j : ℕ). get_or b₂ j 0) k ∙ get_or-set_same b₁ (s + n + 1) z 0 (omega arith) in
    let r : tally b₂ s n x ≡ tally b s n x = tally_eq b₂ b s s n x (λ i q. get_or-set_other b₁ (s + n + 1) (s + i) z 0 (omega arith) ∙ get_or-set_other b (s + n) (s + i) y 0 (omega arith)) in
    omega (arith, tally_suc b₂ s (suc n) x, tally_suc b₂ s n x, r, ap (λ (w : ℕ). hit w x) g₁, ap (λ (w : ℕ). hit w x) g₂)

-- two entries stored outside
pub tally_out :
    (b : List ℕ) (s n p y z x : ℕ) → ((i : ℕ) → i < n → (s + i ≡ p → ⊥) × (s + i ≡ p + 1 → ⊥))
    → tally (set (set b p y) (p + 1) z) s n x ≡ tally b s n x
tally_out b s n p y z x o =
    tally_eq (set (set b p y) (p + 1) z) b s s n x (λ i q. get_or-set_other (set b p y) (p + 1) (s + i) z 0 (o i q).1 ∙ get_or-set_other b p (s + i) y 0 (o i q).0)

-- the first run begins at 0
pub start_zero : (f : List ℕ) (v : ℕ) → start_of f v 0 ≡ 0
unfolding start_of
start_zero f v = refl

-- the next where it ends
pub start_suc : (f : List ℕ) (v j : ℕ) → start_of f v (suc j) ≡ start_of f v j + 2 * corners_of f (v + j)
unfolding start_of
start_suc f v j = refl

-- runs begin one after the other
pub start_more : (f : List ℕ) (v j d : ℕ) → start_of f v j ≤ start_of f v (j + d)
start_more f v j zero = rw (add-zero) (omega arith)
start_more f v j (suc d) = rw (add-suc j d) (omega (arith, start_suc f v (j + d), start_more f v j d))

-- a run ends before a later one begins
pub start_before : (f : List ℕ) (v j k : ℕ) → j < k → start_of f v j + 2 * corners_of f (v + j) ≤ start_of f v k
start_before f v j k h =
    let e : suc j + (k - suc j) ≡ k = omega arith in
    omega (arith, start_suc f v j, start_more f v (suc j) (k - suc j), ap (λ (n : ℕ). start_of f v n) e)

-- the same by counters
pub sum_zero : (counts : List ℕ) → sum_to counts 0 ≡ 0
unfolding sum_to
sum_zero counts = refl

-- one more
pub sum_suc : (counts : List ℕ) (j : ℕ) → sum_to counts (suc j) ≡ sum_to counts j + 2 * get_or counts j 0
unfolding sum_to
sum_suc counts j = refl

-- which are right
pub sum_start : {f : List ℕ} {v width : ℕ} {counts : List ℕ} → Counted f v width counts → (j : ℕ) → j ≤ width → sum_to counts j ≡ start_of f v j
sum_start {f} {v} {width} {counts} q zero h = sum_zero counts ∙ sym (start_zero f v)
sum_start {f} {v} {width} {counts} q (suc j) h = omega (arith, sum_suc counts j, start_suc f v j, sum_start q j (omega arith), q.each j (omega arith))

-- where run 0 begins, and any other
pub begin_zero : (ends : List ℕ) → begin_of ends 0 ≡ 0
unfolding begin_of
begin_zero ends = refl

-- where the one before it ends
pub begin_suc : (ends : List ℕ) (j : ℕ) → begin_of ends (suc j) ≡ get_or ends j 0
unfolding begin_of
begin_suc ends j = refl
