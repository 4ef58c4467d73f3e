-- The first element that passes a test, and a check that reports the first element at fault. Assumes nothing.
use mathlib.Core.Path.{◌≡◌, refl, ap, ◌∙◌, subst}
use mathlib.Core.Bool.{Bool, true, false, not, ◌&&◌, ◌||◌, cond, and-false}
use mathlib.Core.Logic.{◌↔◌}
use mathlib.Core.List.{List, [], ◌∷◌, ◌++◌}
use Prim.Native.Nat.{ℕ, zero, suc, ◌<◌, zero-le, suc-le-suc}
use native.Mathlib.Nat.{not-suc-le-zero, le_of_suc-le-suc}
use native.Mathlib.Omega.{arith}
use lib.ListN.{length, get_or}
use lib.Dec.{T}
use lib.Ieee.Bits.{is_true, is_false}
use Rattle.rules.specs.Lists.{any, all, first}
use Rattle.rules.specs.Refusal.{Check, ok, no, unless, at_first}
use Rattle.rule_laws.proofs.Rising.{All, all_at, all_imp, all_from}
use Rattle.rule_laws.proofs.Members.{all_elim, all_intro}
use Rattle.rule_laws.proofs.Decided.{is_ok, unless_ok, unless_is}

-- ---- the first that passes

module _ {A : Type 0} where
  -- where some passes, the first is there and passes
  pub first_found : (p : A → Bool) (xs : List A) (d : A) → T (any p xs) → (first p xs < length xs) × T (p (get_or xs (first p xs) d))
  unfolding any first
  first_found p [] d t = absurd t
  first_found p (x ∷ xs) d t = go (p x) refl t (λ r. first_found p xs d r)
    where
      go : (b : Bool) → p x ≡ b → T (b || any p xs) → (T (any p xs) → (first p xs < length xs) × T (p (get_or xs (first p xs) d)))
          → (cond b 0 (suc (first p xs)) < suc (length xs)) × T (p (get_or (x ∷ xs) (cond b 0 (suc (first p xs))) d))
      go true e t r = (suc-le-suc zero-le, rw e tt)
      go false e t r = let w = r t in (suc-le-suc w.0, w.1)

  -- none before the first passes
  pub first_before : (p : A → Bool) (xs : List A) (d : A) (k : ℕ) → k < first p xs → T (p (get_or xs k d)) → ⊥
  unfolding first
  first_before p [] d k h t = not-suc-le-zero h
  first_before p (x ∷ xs) d k h t = go (p x) refl k h t (λ j l s. first_before p xs d j l s)
    where
      go : (b : Bool) → p x ≡ b → (k : ℕ) → k < cond b 0 (suc (first p xs)) → T (p (get_or (x ∷ xs) k d))
          → ((j : ℕ) → j < first p xs → T (p (get_or xs j d)) → ⊥) → ⊥
      go true e k h t r = not-suc-le-zero h
      go false e zero h t r = subst T e t
      go false e (suc k) h t r = r k (le_of_suc-le-suc h) t

  -- where none of the front passes and the next does, the first is that one
  pub first_after : (p : A → Bool) (xs : List A) (y : A) (ys : List A) → All (λ x. p x ≡ false) xs → T (p y) → first p (xs ++ (y ∷ ys)) ≡ length xs
  unfolding first
  first_after p [] y ys h t = ap (λ (b : Bool). cond b 0 (suc (first p ys))) (is_true (p y) t)
  first_after p (x ∷ xs) y ys h t = ap (λ (b : Bool). cond b 0 (suc (first p (xs ++ (y ∷ ys))))) h.0 ∙ ap suc (first_after p xs y ys h.1 t)

  -- where the element at i passes and none before it does, the first is at i
  pub first_is : (fault : A → Bool) (d : A) (xs : List A) (i : ℕ) → i < length xs → ((j : ℕ) → j < i → fault (get_or xs j d) ≡ false) → fault (get_or xs i d) ≡ true → first fault xs ≡ i
  unfolding first
  first_is fault d [] i l h e = absurd (not-suc-le-zero l)
  first_is fault d (x ∷ xs) zero l h e = rw e
  first_is fault d (x ∷ xs) (suc i) l h e = rw (h 0 (omega arith)) (ap suc (first_is fault d xs i (le_of_suc-le-suc l) (λ j m. h (suc j) (omega arith)) e))

-- ---- a check that reports the first element at fault

-- where nothing is found, no element is at fault
pub at_first_all : {A : Type 0} (n : ℕ) (fault : A → Bool) (xs : List A) → at_first n fault xs ≡ ok → All (λ x. T (not (fault x))) xs
unfolding at_first
at_first_all n fault xs e = all_elim (λ x. not (fault x)) xs (unless_ok n (first fault xs) (all (λ x. not (fault x)) xs) e)

-- where no element is at fault, nothing is found
pub at_first_ok : {A : Type 0} (n : ℕ) (fault : A → Bool) (xs : List A) → All (λ x. fault x ≡ false) xs → at_first n fault xs ≡ ok
unfolding at_first
at_first_ok n fault xs h =
    unless_is n (first fault xs) (all (λ x. not (fault x)) xs)
    (is_true (all (λ x. not (fault x)) xs) (all_intro (λ x. not (fault x)) xs (all_imp (λ x. fault x ≡ false) (λ x. T (not (fault x))) (λ x e. rw e tt) xs h)))

-- a refusal's number and place are its own
same_refusal : (n p m q : ℕ) → no n p ≡ no m q → (n ≡ m) × (p ≡ q)
same_refusal n p m q e = (ap number e, ap place e)
  where
    number : Check → ℕ
    number ok = 0
    number (no k l) = k

    place : Check → ℕ
    place ok = 0
    place (no k l) = l

-- i is a place of xs, the element there is at fault, and none before it is; d is any default
pub record FirstFault {A : Type 0} (fault : A → Bool) (d : A) (xs : List A) (i : ℕ) : Type 0 where
  pub inside : i < length xs
  pub at : fault (get_or xs i d) ≡ true
  pub before : (j : ℕ) → j < i → fault (get_or xs j d) ≡ false

module _ {A : Type 0} (fault : A → Bool) (d : A) where
  -- where one is at fault, not all are without fault
  not_all : (xs : List A) (i : ℕ) → i < length xs → fault (get_or xs i d) ≡ true → all (λ x. not (fault x)) xs ≡ false
  unfolding all
  not_all [] i l e = absurd (not-suc-le-zero l)
  not_all (x ∷ xs) zero l e = rw e
  not_all (x ∷ xs) (suc i) l e = rw (not_all xs i (le_of_suc-le-suc l) e) (and-false (not (fault x)))

  -- where not all are without fault, some one is at fault
  some_fault : (xs : List A) → all (λ x. not (fault x)) xs ≡ false → T (any fault xs)
  unfolding all any
  some_fault [] e = subst T e tt
  some_fault (x ∷ xs) e = go (fault x) e (λ h. some_fault xs h)
    where
      go : (b : Bool) → (not b && all (λ y. not (fault y)) xs) ≡ false → (all (λ y. not (fault y)) xs ≡ false → T (any fault xs)) → T (b || any fault xs)
      go true h r = tt
      go false h r = r h

  -- where none is at fault, nothing is found
  pub none_at_fault : (n : ℕ) (xs : List A) → ((j : ℕ) → j < length xs → fault (get_or xs j d) ≡ false) → at_first n fault xs ≡ ok
  none_at_fault n xs h = at_first_ok n fault xs (all_from (λ x. fault x ≡ false) d xs h)

  -- where i is the first at fault, n and i are found
  pub at_fault : (n : ℕ) (xs : List A) (i : ℕ) → i < length xs → ((j : ℕ) → j < i → fault (get_or xs j d) ≡ false) → fault (get_or xs i d) ≡ true → at_first n fault xs ≡ no n i
  unfolding at_first unless
  at_fault n xs i l h e = rw (not_all xs i l e) (ap (no n) (first_is fault d xs i l h e))

  -- where something is found, it is number n and the first at fault
  found_fault : (n m : ℕ) (xs : List A) (i : ℕ) → at_first n fault xs ≡ no m i → (n ≡ m) × FirstFault fault d xs i
  unfolding at_first unless is_ok
  found_fault n m xs i e = go (all (λ x. not (fault x)) xs) refl e
    where
      the_first : T (any fault xs) → FirstFault fault d xs (first fault xs)
      the_first t =
          let w = first_found fault xs d t in
          record {
            inside = w.0;
            at = is_true (fault (get_or xs (first fault xs) d)) w.1;
            before = λ j l. no_fault (fault (get_or xs j d)) (first_before fault xs d j l);
          }
        where
          no_fault : (b : Bool) → (T b → ⊥) → b ≡ false
          no_fault true f = absurd (f tt)
          no_fault false f = refl

      go : (b : Bool) → all (λ x. not (fault x)) xs ≡ b → unless n (first fault xs) b ≡ no m i → (n ≡ m) × FirstFault fault d xs i
      go true h e = absurd (subst is_ok e tt)
      go false h e =
          let s = same_refusal n (first fault xs) m i e in
          (s.0, subst (λ k. FirstFault fault d xs k) s.1 (the_first (some_fault xs h)))

  -- nothing is found exactly if none is at fault
  pub fine_exactly : (n : ℕ) (xs : List A) → (at_first n fault xs ≡ ok) ↔ ((j : ℕ) → j < length xs → fault (get_or xs j d) ≡ false)
  fine_exactly n xs = (
    λ e j l. is_false (fault (get_or xs j d)) (all_at (λ x. T (not (fault x))) xs d j (at_first_all n fault xs e) l),
    none_at_fault n xs,
  )

  -- number n and the place i are found exactly if i is the first at fault
  pub fault_exactly : (n : ℕ) (xs : List A) (i : ℕ) → (at_first n fault xs ≡ no n i) ↔ FirstFault fault d xs i
  fault_exactly n xs i = (λ e. (found_fault n n xs i e).1, λ f. at_fault n xs i f.inside f.before f.at)

  -- no other number is found
  pub fault_number : (n m : ℕ) (xs : List A) (i : ℕ) → at_first n fault xs ≡ no m i → n ≡ m
  fault_number n m xs i e = (found_fault n m xs i e).0
