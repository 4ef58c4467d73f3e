-- The pairs of points, in their order, are the keys below P * P. Assumes nothing.
use mathlib.Core.Path.{◌≡◌, sym}
use mathlib.Core.List.{[], ◌∷◌, ◌++◌, map, append_assoc, append-nil, map-append, map-map}
use Prim.Native.Nat.{ℕ, zero, suc, ◌+◌, ◌*◌, ◌/◌, ◌%◌, ◌<◌}
use native.Mathlib.Nat.{add-suc, add-zero}
use native.Mathlib.Omega.{arith}
use Rattle.rules.specs.Lists.{below, each}
use Rattle.rules.specs.Steps.{Step, step, pairs}
use Rattle.rule_laws.proofs.Lists.{each_append}
use Rattle.rule_laws.proofs.Rising.{all_imp, below_all, map_same}
use Rattle.halves.proofs.Ranges.{key_div, key_mod}

-- the pair of a key
abbrev pub pair : ℕ → ℕ → Step
pair P k = step (k / P) (k % P)

-- the numbers below a sum
below_add : (a m : ℕ) → below (a + m) ≡ below a ++ map (λ y. a + y) (below m)
unfolding below
below_add a zero = rw (add-zero) (sym (append-nil (below a)))
below_add a (suc m) = rw (add-suc a m, below_add a m, map-append (λ y. a + y) (below m) (m ∷ [])) (append_assoc (below a) (map (λ y. a + y) (below m)) ((a + m) ∷ []))

-- the key of a pair has that pair
pair_key : (P n y : ℕ) → y < P → pair P (n * P + y) ≡ step n y
pair_key P n y h = cc (key_div P n y h, key_mod P n y h)

-- the pairs with first points below n
rows_keys : (P n : ℕ) → each (λ x. map (λ y. step x y) (below P)) (below n) ≡ map (pair P) (below (n * P))
unfolding below each
rows_keys P zero = let z : 0 * P ≡ 0 = omega arith in rw z
rows_keys P (suc n) =
    let z : suc n * P ≡ n * P + P = omega arith in
    let s = map_same (λ y. pair P (n * P + y)) (λ y. step n y) (below P) (all_imp (λ y. y < P) (λ y. pair P (n * P + y) ≡ step n y) (pair_key P n) (below P) (below_all P)) in
    rw (z, below_add (n * P) P, map-append (pair P) (below (n * P)) (map (λ y. n * P + y) (below P)), ← (rows_keys P n), each_append (λ x. map (λ y. step x y) (below P)) (below n) (n ∷ []), append-nil, map-map (pair P) (λ y. n * P + y) (below P), s)

-- all pairs
pub pairs_keys : (P : ℕ) → pairs P ≡ map (pair P) (below (P * P))
unfolding pairs
pairs_keys P = rows_keys P P
