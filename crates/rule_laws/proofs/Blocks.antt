-- A list cut into blocks of one width, and a list by its places. Assumes nothing.
use mathlib.Core.Path.{◌≡◌, refl, sym, ap, ap₂, ◌∙◌}
use mathlib.Core.List.{List, [], ◌∷◌, ◌++◌, map, append-nil}
use Prim.Native.Nat.{ℕ, zero, suc, ◌+◌, ◌*◌, ◌<◌}
use native.Mathlib.Omega.{arith}
use lib.ListN.{length, get_or, take, drop, length-map}
use lib.Seq.{take-add, split_at, length-take-le, ext_get_or}
use Rattle.rules.specs.Lists.{below, each}
use Rattle.rule_laws.proofs.Lists.{each_append, length_each, length_below, get_or_map_in}
use Rattle.rule_laws.proofs.Rising.{get_or_below}

-- ---- 0 .. n - 1

-- a list made of one number
each_one : (h : ℕ → List ℕ) (n : ℕ) → each h (n ∷ []) ≡ h n
unfolding each
each_one h n = append-nil (h n)

-- lists that agree below n make one list
pub each_below : (h g : ℕ → List ℕ) (n : ℕ) → ((i : ℕ) → i < n → h i ≡ g i) → each h (below n) ≡ each g (below n)
unfolding below each
each_below h g zero e = refl
each_below h g (suc n) e =
    each_append h (below n) (n ∷ [])
    ∙ ap₂ (λ (a b : List ℕ). a ++ b) (each_below h g n (λ i l. e i (omega arith))) (each_one h n ∙ e n (omega arith) ∙ sym (each_one g n))
    ∙ sym (each_append g (below n) (n ∷ []))

-- n blocks of width k are the front of the list
pub blocks : (k n : ℕ) (xs : List ℕ) → each (λ i. take k (drop (k * i) xs)) (below n) ≡ take (k * n) xs
unfolding below each
blocks k zero xs = let e : k * 0 ≡ 0 = omega arith in rw e refl
blocks k (suc n) xs =
    let e : k * n + k ≡ k * suc n = omega arith in
    each_append (λ i. take k (drop (k * i) xs)) (below n) (n ∷ [])
    ∙ ap₂ (λ (a b : List ℕ). a ++ b) (blocks k n xs) (each_one (λ i. take k (drop (k * i) xs)) n)
    ∙ sym (take-add (k * n) k xs)
    ∙ ap (λ (m : ℕ). take m xs) e

-- a list by its places
pub tabulated : {A : Type 0} (f : ℕ → A) (xs : List A) (d : A) (n : ℕ) → length xs ≡ n → ((i : ℕ) → i < n → f i ≡ get_or xs i d) → map f (below n) ≡ xs
tabulated f xs d n e h =
    let l : length (map f (below n)) ≡ n = length-map (below n) f ∙ length_below n in
    ext_get_or d (map f (below n)) xs (l ∙ sym e)
    (λ i k. let q : i < n = rw l at k in get_or_map_in f (below n) i 0 d (rw (length_below n) q) ∙ ap f (get_or_below n i q) ∙ h i q)

-- ---- block i, among blocks of one width that the elements make
module _ {A : Type 0} (h : A → List ℕ) (w : ℕ) (wide : (x : A) → length (h x) ≡ w) (xs : List A) (d : A) (i : ℕ) (l : i < length xs) where
  -- those before it, it, and those after it
  pub each_parted : each h xs ≡ each h (take i xs) ++ (h (get_or xs i d) ++ each h (drop (suc i) xs))
  unfolding each
  each_parted = ap (each h) (split_at xs i d l) ∙ each_append h (take i xs) (get_or xs i d ∷ drop (suc i) xs)

  -- i blocks stand before it
  pub each_front : length (each h (take i xs)) ≡ w * i
  each_front = length_each w h wide (take i xs) ∙ ap (λ (n : ℕ). w * n) (length-take-le i xs (omega arith))
