-- What a filter leaves of 0 .. n - 1: the place of each that is left. Assumes nothing.
use mathlib.Core.Path.{◌≡◌, refl, sym, ap, ◌∙◌, subst}
use mathlib.Core.Bool.{Bool, true, false, ◌&&◌, cond}
use mathlib.Core.List.{List, [], ◌∷◌, ◌++◌, map, map-append, map-map, append-nil, append_assoc}
use Prim.Native.Nat.{ℕ, zero, suc, ◌+◌, ◌≤◌, ◌<◌}
use native.Mathlib.Omega.{arith}
use native.Mathlib.Nat.{add-zero}
use lib.Dec.{T}
use lib.ListN.{length, get_or, replicate, length-map}
use lib.Seq.{ext_get_or}
use Rattle.rules.specs.Lists.{below, filter, count}
use Rattle.rule_laws.proofs.Lists.{filter_append, length_below, get_or_map_in}
use Rattle.rule_laws.proofs.Rising.{get_or_below}
use Rattle.rule_laws.proofs.Counting.{count_next, count_stay, count_strict, count_injective}
use Rattle.rule_laws.proofs.Members.{mem_index, mem_filter, mem_below, mem_at, mem_left}

-- below a sum
pub below_add : (a b : ℕ) → below (a + b) ≡ below a ++ map (λ r. a + r) (below b)
unfolding below
below_add a zero = ap below (add-zero a) ∙ sym (append-nil (below a))
below_add a (suc b) =
    let e : a + suc b ≡ suc (a + b) = omega arith in
    ap below e
    ∙ ap (λ l. l ++ ((a + b) ∷ [])) (below_add a b)
    ∙ append_assoc (below a) (map (λ r. a + r) (below b)) ((a + b) ∷ [])
    ∙ ap (λ l. below a ++ l) (sym (map-append (λ r. a + r) (below b) (b ∷ [])))

-- a list by its places
pub by_place : (xs : List ℕ) → map (λ i. get_or xs i 0) (below (length xs)) ≡ xs
by_place xs =
    ext_get_or 0 (map (λ i. get_or xs i 0) (below (length xs))) xs (length-map (below (length xs)) (λ i. get_or xs i 0) ∙ length_below (length xs))
    (λ i h.
    let k : i < length xs = omega (arith, length-map (below (length xs)) (λ i. get_or xs i 0), length_below (length xs)) in
    get_or_map_in (λ i. get_or xs i 0) (below (length xs)) i 0 0 (omega (arith, length_below (length xs))) ∙ ap (λ j. get_or xs j 0) (get_or_below (length xs) i k))

-- one number again and again
pub map_one : (v : ℕ) (xs : List ℕ) → map (λ x. v) xs ≡ replicate (length xs) v
map_one v [] = refl
map_one v (x ∷ xs) = ap (λ (l : List ℕ). v ∷ l) (map_one v xs)

module _ (p : ℕ → Bool) where
  -- one number more
  last : (n : ℕ) → filter p (below (suc n)) ≡ filter p (below n) ++ cond (p n) (n ∷ []) []
  unfolding filter below
  last n = filter_append p (below n) (n ∷ [])

  -- the places are 0, 1, .. in line
  pub places_line : (n : ℕ) → map (λ y. count p (below y)) (filter p (below n)) ≡ below (count p (below n))
  places_line zero = unfold filter count below in refl
  places_line (suc n) = ap (map (λ y. count p (below y))) (last n) ∙ go (p n) refl (places_line n)
    where
      go : (b : Bool) → p n ≡ b → map (λ y. count p (below y)) (filter p (below n)) ≡ below (count p (below n))
          → map (λ y. count p (below y)) (filter p (below n) ++ cond b (n ∷ []) []) ≡ below (count p (below (suc n)))
      go true e i =
          map-append (λ y. count p (below y)) (filter p (below n)) (n ∷ [])
          ∙ ap (λ l. l ++ (count p (below n) ∷ [])) i
          ∙ unfold below in (ap below (sym (count_next p n (subst T (sym e) tt))))
      go false e i = ap (map (λ y. count p (below y))) (append-nil (filter p (below n))) ∙ i ∙ ap below (sym (count_stay p n e))

  -- as many are left as pass
  pub length_count : (n : ℕ) → length (filter p (below n)) ≡ count p (below n)
  unfolding count
  length_count n = refl

  -- the one at place r has the place r
  pub place_there : (n r : ℕ) → r < count p (below n) → count p (below (get_or (filter p (below n)) r 0)) ≡ r
  place_there n r h =
      sym (get_or_map_in (λ y. count p (below y)) (filter p (below n)) r 0 0 (omega (arith, length_count n)))
      ∙ ap (λ l. get_or l r 0) (places_line n)
      ∙ get_or_below (count p (below n)) r h

  -- one that passes is at its place
  pub there_place : (n y : ℕ) → y < n → T (p y) → get_or (filter p (below n)) (count p (below y)) 0 ≡ y
  there_place n y h t =
      let s = count_strict p y n h t in
      let r = count p (below y) in
      let x = get_or (filter p (below n)) r 0 in
      count_injective p x y (mem_left p x (below n) (mem_at (filter p (below n)) r 0 (omega (arith, length_count n)))).1 t (place_there n r s)
