-- Laws of sums over lists. Assumes nothing.
use mathlib.Core.Path.{◌≡◌, refl, sym, ap, ap₂, ◌∙◌}
use mathlib.Core.Bool.{Bool, true, false, ◌&&◌, cond}
use mathlib.Core.List.{List, [], ◌∷◌, ◌++◌, map}
use Prim.Native.Nat.{ℕ, zero, suc, ◌+◌, ◌≤◌, ◌<◌}
use native.Mathlib.Omega.{arith}
use native.Mathlib.Decide.{dec_lt, ℕ_discrete}
use borrow.Author.Tests.{eq-eqb, ne_eqb, lt-ltb, le-ltb}
use lib.Dec.{eqb, ltb}
use lib.ListN.{length, length-append}
use Rattle.rules.specs.Lists.{below, filter, each}
use Rattle.rule_laws.proofs.Lists.{filter_append}
use Rattle.rule_laws.proofs.Rising.{All}
use Rattle.splitting.proofs.AllAtOnce.{each_last}
use Rattle.fan_laws.specs.Sums.{sum_of}

module _ {A : Type 0} where
  -- of two lists, one after the other
  pub sum_append : (g : A → ℕ) (xs ys : List A) → sum_of g (xs ++ ys) ≡ sum_of g xs + sum_of g ys
  unfolding sum_of
  sum_append g [] ys = omega arith
  sum_append g (x ∷ xs) ys = omega (arith, sum_append g xs ys)

  -- of numbers that agree on the members
  pub sum_agree : (g h : A → ℕ) (xs : List A) → All (λ x. g x ≡ h x) xs → sum_of g xs ≡ sum_of h xs
  unfolding sum_of
  sum_agree g h [] a = refl
  sum_agree g h (x ∷ xs) a = ap₂ (λ (m n : ℕ). m + n) a.0 (sum_agree g h xs a.1)

  -- of sums of two
  pub sum_plus : (g h : A → ℕ) (xs : List A) → sum_of (λ x. g x + h x) xs ≡ sum_of g xs + sum_of h xs
  unfolding sum_of
  sum_plus g h [] = omega arith
  sum_plus g h (x ∷ xs) = omega (arith, sum_plus g h xs)

module _ {A B : Type 0} where
  -- of what f makes of the members
  pub sum_map : (g : B → ℕ) (f : A → B) (xs : List A) → sum_of g (map f xs) ≡ sum_of (λ x. g (f x)) xs
  unfolding sum_of
  sum_map g f [] = refl
  sum_map g f (x ∷ xs) = ap (λ (n : ℕ). g (f x) + n) (sum_map g f xs)

  -- the length of the lists that f makes of the members, one after the other
  pub length_each_sum : (f : A → List B) (xs : List A) → length (each f xs) ≡ sum_of (λ x. length (f x)) xs
  unfolding sum_of each
  length_each_sum f [] = refl
  length_each_sum f (x ∷ xs) = length-append (f x) (each f xs) ∙ ap (λ (n : ℕ). length (f x) + n) (length_each_sum f xs)

-- one number more
pub sum_below : (h : ℕ → ℕ) (p : ℕ → Bool) (n : ℕ) → sum_of h (filter p (below (suc n))) ≡ sum_of h (filter p (below n)) + cond (p n) (h n) 0
unfolding below
sum_below h p n =
    ap (sum_of h) (filter_append p (below n) (n ∷ []))
    ∙ sum_append h (filter p (below n)) (filter p (n ∷ []))
    ∙ ap (λ (t : ℕ). sum_of h (filter p (below n)) + t) (unfold filter in (one (p n)))
  where
    one : (b : Bool) → sum_of h (cond b (n ∷ []) []) ≡ cond b (h n) 0
    one true = unfold sum_of in (omega arith)
    one false = unfold sum_of in refl

-- ---- members in another order: class after class

module _ (c : ℕ → ℕ) (q : ℕ → Bool) (g : ℕ → ℕ) where
  -- one class more
  class-more :
      (v : ℕ) (zs : List ℕ)
      → sum_of g (filter (λ y. ltb (c y) (suc v) && q y) zs) ≡ sum_of g (filter (λ y. ltb (c y) v && q y) zs) + sum_of g (filter (λ y. eqb (c y) v && q y) zs)
  unfolding filter sum_of
  class-more v [] = omega arith
  class-more v (y ∷ zs) = go (dec_lt (c y) v) (ℕ_discrete (c y) v) (class-more v zs)
    where
      all : List ℕ
      all = filter (λ y. ltb (c y) (suc v) && q y) zs

      less : List ℕ
      less = filter (λ y. ltb (c y) v && q y) zs

      here : List ℕ
      here = filter (λ y. eqb (c y) v && q y) zs

      before : (r : Bool) → sum_of g all ≡ sum_of g less + sum_of g here → sum_of g (cond r (y ∷ all) all) ≡ sum_of g (cond r (y ∷ less) less) + sum_of g here
      before true i = omega (arith, i)
      before false i = i

      at : (r : Bool) → sum_of g all ≡ sum_of g less + sum_of g here → sum_of g (cond r (y ∷ all) all) ≡ sum_of g less + sum_of g (cond r (y ∷ here) here)
      at true i = omega (arith, i)
      at false i = i

      go : Dec (c y < v) → Dec (c y ≡ v) → sum_of g all ≡ sum_of g less + sum_of g here
          → sum_of g (cond (ltb (c y) (suc v) && q y) (y ∷ all) all) ≡ sum_of g (cond (ltb (c y) v && q y) (y ∷ less) less) + sum_of g (cond (eqb (c y) v && q y) (y ∷ here) here)
      go (yes l) d i = rw (lt-ltb (c y) (suc v) (omega arith), lt-ltb (c y) v l, ne_eqb (c y) v (λ e. absurd (omega arith))) (before (q y) i)
      go (no l) (yes e) i = rw (lt-ltb (c y) (suc v) (omega arith), le-ltb (c y) v (omega arith), eq-eqb (c y) v e) (at (q y) i)
      go (no l) (no e) i = rw (le-ltb (c y) (suc v) (above e l), le-ltb (c y) v (omega arith), ne_eqb (c y) v e) i
        where
          above : (c y ≡ v → ⊥) → (c y < v → ⊥) → suc v ≤ c y
          above e l = omega arith

  -- no member is below 0
  none : (zs : List ℕ) → sum_of g (filter (λ y. ltb (c y) 0 && q y) zs) ≡ 0
  unfolding filter
  none [] = unfold sum_of in refl
  none (y ∷ zs) = rw (le-ltb (c y) 0 (omega arith)) (none zs)

  -- class after class below v
  pub class_sum : (v : ℕ) (zs : List ℕ) → sum_of g (each (λ u. filter (λ y. eqb (c y) u && q y) zs) (below v)) ≡ sum_of g (filter (λ y. ltb (c y) v && q y) zs)
  class_sum zero zs = unfold below each sum_of in (sym (none zs))
  class_sum (suc v) zs =
      ap (sum_of g) (each_last (λ u. filter (λ y. eqb (c y) u && q y) zs) v)
      ∙ sum_append g (each (λ u. filter (λ y. eqb (c y) u && q y) zs) (below v)) (filter (λ y. eqb (c y) v && q y) zs)
      ∙ ap (λ (n : ℕ). n + sum_of g (filter (λ y. eqb (c y) v && q y) zs)) (class_sum v zs)
      ∙ sym (class-more v zs)

  -- every member is below v
  same : (v : ℕ) (zs : List ℕ) → All (λ y. c y < v) zs → filter (λ y. ltb (c y) v && q y) zs ≡ filter q zs
  unfolding filter
  same v [] a = refl
  same v (y ∷ zs) a = rw (lt-ltb (c y) v a.0) (ap (λ (l : List ℕ). cond (q y) (y ∷ l) l) (same v zs a.1))

  -- all classes, where every member is below v: the members in line
  pub all_classes : (v : ℕ) (zs : List ℕ) → All (λ y. c y < v) zs → sum_of g (each (λ u. filter (λ y. eqb (c y) u && q y) zs) (below v)) ≡ sum_of g (filter q zs)
  all_classes v zs a = class_sum v zs ∙ ap (sum_of g) (same v zs a)
