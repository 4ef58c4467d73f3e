-- Two joinings that agree on 0 .. n - 1 have the same groups, in the same order. Assumes nothing.
use mathlib.Core.Path.{◌≡◌, refl, ap, ◌∙◌}
use mathlib.Core.Bool.{Bool, ◌||◌}
use mathlib.Core.List.{List, [], ◌∷◌, map}
use Prim.Native.Nat.{ℕ, zero, suc, ◌<◌}
use lib.Dec.{T, eqb, leb}
use Rattle.rules.specs.Lists.{below, filter, any, all, each, times}
use Rattle.rules.specs.Groups.{grown, group, leads, groups}
use Rattle.rule_laws.proofs.Rising.{All, all_imp, all_filter, below_all, map_same}

module _ {A : Type 0} where
  -- tests that agree on a list leave the same of it
  pub filter_agree : (p q : A → Bool) (xs : List A) → All (λ x. p x ≡ q x) xs → filter p xs ≡ filter q xs
  unfolding filter
  filter_agree p q [] h = refl
  filter_agree p q (x ∷ xs) h = rw (h.0, filter_agree p q xs h.1)

  -- and both or none find one
  any_agree : (p q : A → Bool) (xs : List A) → All (λ x. p x ≡ q x) xs → any p xs ≡ any q xs
  unfolding any
  any_agree p q [] h = refl
  any_agree p q (x ∷ xs) h = rw (h.0, any_agree p q xs h.1)

-- functions that agree on a list make the same lists of it
pub each_agree : {A B : Type 0} (f g : A → List B) (xs : List A) → All (λ x. f x ≡ g x) xs → each f xs ≡ each g xs
unfolding each
each_agree f g [] h = refl
each_agree f g (x ∷ xs) h = rw (h.0, each_agree f g xs h.1)

-- what agrees for each number below n agrees on the list of them
pub on_below : (P : ℕ → Type 0) (n : ℕ) → ((i : ℕ) → i < n → P i) → All P (below n)
on_below P n h = all_imp (λ i. i < n) P h (below n) (below_all n)

module _ (joined joined' : ℕ → ℕ → Bool) (n : ℕ) (same : (k l : ℕ) → k < n → l < n → joined k l ≡ joined' k l) where
  -- a round finds the same
  grown_same : (g : List ℕ) → All (λ i. i < n) g → grown joined n g ≡ grown joined' n g
  unfolding grown
  grown_same g a =
      filter_agree (λ j. any (λ i. eqb i j || joined i j) g) (λ j. any (λ i. eqb i j || joined' i j) g) (below n)
      (on_below (λ j. any (λ i. eqb i j || joined i j) g ≡ any (λ i. eqb i j || joined' i j) g) n
      (λ j h.
      any_agree (λ i. eqb i j || joined i j) (λ i. eqb i j || joined' i j) g
      (all_imp (λ i. i < n) (λ i. (eqb i j || joined i j) ≡ (eqb i j || joined' i j)) (λ i k. ap (λ b. eqb i j || b) (same i j k h)) g a)))

  -- a round finds things below n
  grown_in : (g : List ℕ) → All (λ i. i < n) (grown joined n g)
  unfolding grown
  grown_in g =
      all_imp (λ j. (j < n) × T (any (λ i. eqb i j || joined i j) g)) (λ j. j < n) (λ j h. h.0) (grown joined n g)
      (all_filter (λ j. j < n) (λ j. any (λ i. eqb i j || joined i j) g) (below n) (below_all n))

  -- so do k rounds
  rounds_same : (k i : ℕ) → i < n → (times k (grown joined n) (i ∷ []) ≡ times k (grown joined' n) (i ∷ [])) × All (λ j. j < n) (times k (grown joined n) (i ∷ []))
  unfolding times
  rounds_same zero i h = (refl, (h, tt))
  rounds_same (suc k) i h =
      let r = rounds_same k i h in
      (grown_same (times k (grown joined n) (i ∷ [])) r.1 ∙ ap (grown joined' n) r.0, grown_in (times k (grown joined n) (i ∷ [])))

  -- each thing has the same group
  pub group_agree : (i : ℕ) → i < n → group joined n i ≡ group joined' n i
  unfolding group
  group_agree i h = (rounds_same n i h).0

  -- the same ones lead
  pub leads_agree : (i : ℕ) → i < n → leads joined n i ≡ leads joined' n i
  unfolding leads
  leads_agree i h = ap (all (leb i)) (group_agree i h)

  -- and the groups are the same
  pub groups_agree : groups joined n ≡ groups joined' n
  unfolding groups
  groups_agree =
      map_same (group joined n) (group joined' n) (filter (leads joined n) (below n))
      (all_imp (λ i. (i < n) × T (leads joined n i)) (λ i. group joined n i ≡ group joined' n i) (λ i h. group_agree i h.0) (filter (leads joined n) (below n))
      (all_filter (λ i. i < n) (leads joined n) (below n) (below_all n)))
      ∙ ap (map (group joined' n)) (filter_agree (leads joined n) (leads joined' n) (below n) (on_below (λ i. leads joined n i ≡ leads joined' n i) n leads_agree))
