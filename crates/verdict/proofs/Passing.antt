-- The first fault among the numbers below n that pass a test. Assumes nothing.
use mathlib.Core.Path.{◌≡◌, ap, ◌∙◌}
use mathlib.Core.Bool.{Bool, true, false, not, and-false}
use mathlib.Core.List.{List, [], ◌∷◌, ◌++◌}
use Prim.Native.Nat.{ℕ, ◌<◌}
use lib.Dec.{T}
use lib.Ieee.Bits.{is_true}
use Rattle.rules.specs.Lists.{below, filter, count, all}
use Rattle.rules.specs.Refusal.{ok, no, at_first, unless}
use Rattle.rule_laws.proofs.Lists.{filter_append, filter_cons}
use Rattle.rule_laws.proofs.Rising.{All, all_imp, all_filter, below_all, below_at}
use Rattle.rule_laws.proofs.Firsts.{first_after, at_first_ok}

-- where one is at fault, not all are without fault
not_all : {A : Type 0} (f : A → Bool) (xs : List A) (y : A) (ys : List A) → f y ≡ true → all (λ x. not (f x)) (xs ++ (y ∷ ys)) ≡ false
unfolding all
not_all f [] y ys e = rw e
not_all f (x ∷ xs) y ys e = rw (not_all f xs y ys e) (and-false (not (f x)))

module _ (passes fault : ℕ → Bool) where
  -- none of those below k that pass is at fault
  none_passing : (k : ℕ) → ((j : ℕ) → j < k → passes j ≡ true → fault j ≡ false) → All (λ j. fault j ≡ false) (filter passes (below k))
  none_passing k h =
      all_imp (λ j. (j < k) × T (passes j)) (λ j. fault j ≡ false) (λ j p. h j p.0 (is_true (passes j) p.1)) (filter passes (below k))
      (all_filter (λ j. j < k) passes (below k) (below_all k))

  -- so nothing is found
  pub no_fault : (d n : ℕ) → ((j : ℕ) → j < n → passes j ≡ true → fault j ≡ false) → at_first d fault (filter passes (below n)) ≡ ok
  no_fault d n h = at_first_ok d fault (filter passes (below n)) (none_passing n h)

  -- else the first at fault is found, after as many as pass before it
  pub a_fault :
      (d n k : ℕ) → k < n → ((j : ℕ) → j < k → passes j ≡ true → fault j ≡ false) → T (passes k) → T (fault k)
      → at_first d fault (filter passes (below n)) ≡ no d (count passes (below k))
  unfolding at_first unless count
  a_fault d n k l h p q =
      let w = below_at k n l in
      let cut = ap (filter passes) w.1 ∙ filter_append passes (below k) (k ∷ w.0) ∙ ap (λ (z : List ℕ). filter passes (below k) ++ z) (filter_cons passes k w.0 p) in
      rw (cut, not_all fault (filter passes (below k)) k (filter passes w.0) (is_true (fault k) q), first_after fault (filter passes (below k)) k (filter passes w.0) (none_passing k h) q)
