-- How many elements pass a test: put together, with a weaker test, over 0 .. n - 1; and what a count says of the members. Assumes nothing.
use mathlib.Core.Path.{◌≡◌, refl, sym, ap, ◌∙◌, subst}
use mathlib.Core.Logic.{◌⊎◌, inl, inr}
use mathlib.Core.Bool.{Bool, true, false, not, ◌&&◌, ◌||◌, cond, true≢false}
use mathlib.Core.List.{List, [], ◌∷◌, ◌++◌, map, Memᴰ}
use Prim.Native.Nat.{ℕ, zero, suc, ◌+◌, ◌≤◌, ◌<◌, zero-le, suc-le-suc}
use native.Mathlib.Omega.{arith}
use native.Mathlib.Nat.{le_of_suc-le-suc, not-suc-le-zero}
use native.Mathlib.Decide.{dec_lt}
use borrow.Author.Tests.{eqb-true}
use lib.ListN.{length, get_or, length-append, length-map}
use lib.Dec.{T, eqb, eqb→eq, eqb_refl}
use lib.Ieee.Bits.{is_true}
use Rattle.rules.specs.Lists.{below, filter, count, any, each}
use Rattle.rule_laws.proofs.Lists.{filter_append, filter_map, length_below, count_below}
use Rattle.rule_laws.proofs.Rising.{All, all_imp, below_all}
use Rattle.rule_laws.proofs.Members.{in_all, some_length, single, mem_at, mem_filter, mem_below, below_mem, mem_each, any_intro, any_mem}

-- ---- of one element, of lists put together, of a changed list

module _ {A : Type 0} where
  -- one that passes counts one
  pub count_one : (p : A → Bool) (x : A) → T (p x) → count p (x ∷ []) ≡ 1
  unfolding count filter
  count_one p x t = ap (λ (b : Bool). length (cond b (x ∷ []) [])) (is_true (p x) t)

  -- one that does not counts nothing
  pub count_not : (p : A → Bool) (x : A) → p x ≡ false → count p (x ∷ []) ≡ 0
  unfolding count filter
  count_not p x e = ap (λ (b : Bool). length (cond b (x ∷ []) [])) e

  -- two lists, one after the other
  pub count_append : (p : A → Bool) (xs ys : List A) → count p (xs ++ ys) ≡ count p xs + count p ys
  unfolding count
  count_append p xs ys = ap length (filter_append p xs ys) ∙ length-append (filter p xs) (filter p ys)

  -- a test that does not look
  pub count_all : (b : Bool) (xs : List A) → count (λ x. b) xs ≡ cond b (length xs) 0
  unfolding count filter
  count_all true [] = refl
  count_all true (x ∷ xs) = ap suc (count_all true xs)
  count_all false [] = refl
  count_all false (x ∷ xs) = count_all false xs

  -- what passes B and what does not make up the list
  pub count_parts : (B p : A → Bool) (xs : List A) → count p xs ≡ count p (filter B xs) + count p (filter (λ x. not (B x)) xs)
  unfolding count filter
  count_parts B p [] = refl
  count_parts B p (x ∷ xs) = go (B x) (p x) refl (count_parts B p xs)
    where
      go : (b c : Bool) → p x ≡ c → length (filter p xs) ≡ length (filter p (filter B xs)) + length (filter p (filter (λ y. not (B y)) xs))
          → length (cond c (x ∷ filter p xs) (filter p xs))
          ≡ length (filter p (cond b (x ∷ filter B xs) (filter B xs))) + length (filter p (cond (not b) (x ∷ filter (λ y. not (B y)) xs) (filter (λ y. not (B y)) xs)))
      go true true q e = rw q (omega arith)
      go true false q e = rw q (omega arith)
      go false true q e = rw q (omega arith)
      go false false q e = rw q (omega arith)

  -- of two tests that never both pass, those that pass either are those that pass the one and those that pass the other
  pub count_either : (p q : A → Bool) → ((x : A) → (p x && q x) ≡ false) → (xs : List A) → count (λ x. p x || q x) xs ≡ count p xs + count q xs
  unfolding count filter
  count_either p q h [] = refl
  count_either p q h (x ∷ xs) = go (p x) (q x) (h x) (count_either p q h xs)
    where
      go : (b c : Bool) → (b && c) ≡ false → length (filter (λ y. p y || q y) xs) ≡ length (filter p xs) + length (filter q xs)
          → length (cond (b || c) (x ∷ filter (λ y. p y || q y) xs) (filter (λ y. p y || q y) xs))
          ≡ length (cond b (x ∷ filter p xs) (filter p xs)) + length (cond c (x ∷ filter q xs) (filter q xs))
      go true true e r = absurd (true≢false e)
      go true false e r = omega arith
      go false true e r = omega arith
      go false false e r = r

-- the changed elements that pass are those whose change passes
pub count_map : {A B : Type 0} (p : B → Bool) (f : A → B) (xs : List A) → count p (map f xs) ≡ count (λ x. p (f x)) xs
unfolding count
count_map p f xs = ap length (filter_map p f xs) ∙ length-map (filter (λ x. p (f x)) xs) f

-- ---- one test against another

module _ {A : Type 0} where
  -- a filter leaves no more than the list
  pub filter_le : (p : A → Bool) (xs : List A) → length (filter p xs) ≤ length xs
  unfolding filter
  filter_le p [] = zero-le
  filter_le p (x ∷ xs) = go (p x) (filter_le p xs)
    where
      go : (b : Bool) → length (filter p xs) ≤ length xs → length (cond b (x ∷ filter p xs) (filter p xs)) ≤ suc (length xs)
      go true h = suc-le-suc h
      go false h = omega arith

  -- a weaker test leaves the same, or more
  pub same_or_more :
      (p q : A → Bool) (xs : List A) → All (λ x. T (p x) → T (q x)) xs
      → (filter p xs ≡ filter q xs) ⊎ (length (filter p xs) < length (filter q xs))
  unfolding filter
  same_or_more p q [] h = inl refl
  same_or_more p q (x ∷ xs) h = go (p x) (q x) h.0 (same_or_more p q xs h.1)
    where
      go : (b c : Bool) → (T b → T c) → (filter p xs ≡ filter q xs) ⊎ (length (filter p xs) < length (filter q xs))
          → (cond b (x ∷ filter p xs) (filter p xs) ≡ cond c (x ∷ filter q xs) (filter q xs))
          ⊎ (length (cond b (x ∷ filter p xs) (filter p xs)) < length (cond c (x ∷ filter q xs) (filter q xs)))
      go true true i (inl e) = inl (ap (λ l. x ∷ l) e)
      go true true i (inr l) = inr (suc-le-suc l)
      go true false i r = absurd (i tt)
      go false true i (inl e) = inr (let z = ap length e in omega arith)
      go false true i (inr l) = inr (omega arith)
      go false false i r = r

  -- a weaker test counts at least as many
  pub count_le : (p q : A → Bool) (xs : List A) → ((x : A) → Memᴰ x xs → T (p x) → T (q x)) → count p xs ≤ count q xs
  unfolding count
  count_le p q xs h = go (same_or_more p q xs (in_all (λ x. T (p x) → T (q x)) xs h))
    where
      go : (filter p xs ≡ filter q xs) ⊎ (length (filter p xs) < length (filter q xs)) → length (filter p xs) ≤ length (filter q xs)
      go (inl e) = rw e (omega arith)
      go (inr l) = omega arith

  -- two tests that agree on the members count the same
  pub count_agree : (p q : A → Bool) (xs : List A) → All (λ x. p x ≡ q x) xs → count p xs ≡ count q xs
  unfolding count filter
  count_agree p q [] h = refl
  count_agree p q (x ∷ xs) h = rw h.0 (go (q x) (count_agree p q xs h.1))
    where
      go : (b : Bool) → length (filter p xs) ≡ length (filter q xs) → length (cond b (x ∷ filter p xs) (filter p xs)) ≡ length (cond b (x ∷ filter q xs) (filter q xs))
      go true e = ap suc e
      go false e = e

  -- where what passes p passes q or r, p counts at most the two together
  pub count_or : (p q r : A → Bool) → ((x : A) → T (p x) → T (q x) ⊎ T (r x)) → (xs : List A) → count p xs ≤ count q xs + count r xs
  unfolding count filter
  count_or p q r h [] = zero-le
  count_or p q r h (x ∷ xs) = go (p x) (q x) (r x) (h x) (count_or p q r h xs)
    where
      go : (a b c : Bool) → (T a → T b ⊎ T c) → length (filter p xs) ≤ length (filter q xs) + length (filter r xs)
          → length (cond a (x ∷ filter p xs) (filter p xs)) ≤ length (cond b (x ∷ filter q xs) (filter q xs)) + length (cond c (x ∷ filter r xs) (filter r xs))
      go true true true i l = omega arith
      go true true false i l = omega arith
      go true false true i l = omega arith
      go true false false i l = absurd (none (i tt))
        where
          none : T false ⊎ T false → ⊥
          none (inl t) = t
          none (inr t) = t
      go false true true i l = omega arith
      go false true false i l = omega arith
      go false false true i l = omega arith
      go false false false i l = omega arith

-- ---- a count and the members that pass

module _ {A : Type 0} where
  -- a member that passes is counted
  pub count_some : (p : A → Bool) (x : A) (xs : List A) → Memᴰ x xs → T (p x) → 0 < count p xs
  unfolding count
  count_some p x xs m t = some_length x (filter p xs) (mem_filter p x xs m t)

  -- where some are counted, one passes
  pub some_count : (p : A → Bool) (xs : List A) → 0 < count p xs → (x : A) × Memᴰ x xs × T (p x)
  unfolding count filter
  some_count p [] h = absurd (not-suc-le-zero h)
  some_count p (x ∷ xs) h = go (p x) refl h (λ r. some_count p xs r)
    where
      go : (b : Bool) → p x ≡ b → 0 < length (cond b (x ∷ filter p xs) (filter p xs)) → (0 < length (filter p xs) → (y : A) × Memᴰ y xs × T (p y))
          → (y : A) × Memᴰ y (x ∷ xs) × T (p y)
      go true e l r = (x, Memᴰ.head refl, rw e tt)
      go false e l r = let w = r l in (w.0, Memᴰ.tail w.1, w.2)

  -- where no member passes, none is counted
  pub count_zero : (p : A → Bool) (xs : List A) → ((x : A) → Memᴰ x xs → T (p x) → ⊥) → count p xs ≡ 0
  count_zero p xs h = go (count p xs) refl
    where
      go : (n : ℕ) → count p xs ≡ n → count p xs ≡ 0
      go zero e = e
      go (suc n) e = let w = some_count p xs (rw e (suc-le-suc zero-le)) in absurd (h w.0 w.1 w.2)

  -- where at most one passes, two that pass are equal
  pub only_one : (p : A → Bool) (x y : A) (xs : List A) → count p xs ≤ 1 → Memᴰ x xs → Memᴰ y xs → T (p x) → T (p y) → x ≡ y
  unfolding count
  only_one p x y xs h mx my tx ty = single x y (filter p xs) h (mem_filter p x xs mx tx) (mem_filter p y xs my ty)

  -- two places that pass are two counted
  pub count_two : (p : A → Bool) (xs : List A) (d : A) (k l : ℕ) → k < l → l < length xs → T (p (get_or xs k d)) → T (p (get_or xs l d)) → 1 < count p xs
  unfolding count filter
  count_two p [] d k l kl h s t = absurd (not-suc-le-zero h)
  count_two p (x ∷ xs) d k zero kl h s t = absurd (not-suc-le-zero kl)
  count_two p (x ∷ xs) d zero (suc l) kl h s t = go (p x) s (count_some p (get_or xs l d) xs (mem_at xs l d (le_of_suc-le-suc h)) t)
    where
      go : (b : Bool) → T b → 0 < length (filter p xs) → 1 < length (cond b (x ∷ filter p xs) (filter p xs))
      go true u r = suc-le-suc r
      go false u r = absurd u
  count_two p (x ∷ xs) d (suc k) (suc l) kl h s t = go (p x) (count_two p xs d k l (le_of_suc-le-suc kl) (le_of_suc-le-suc h) s t)
    where
      go : (b : Bool) → 1 < length (filter p xs) → 1 < length (cond b (x ∷ filter p xs) (filter p xs))
      go true r = omega arith
      go false r = r

module _ {A B : Type 0} where
  -- where only the lists of those that pass q have an element that passes p, and one each
  pub each_count : (p : B → Bool) (q : A → Bool) (f : A → List B) → ((x : A) → count p (f x) ≤ cond (q x) 1 0) → (xs : List A) → count p (each f xs) ≤ count q xs
  unfolding each count filter
  each_count p q f h [] = zero-le
  each_count p q f h (x ∷ xs) = let s = count_append p (f x) (each f xs) in go (q x) (h x) s (each_count p q f h xs)
    where
      go : (b : Bool) → length (filter p (f x)) ≤ cond b 1 0 → length (filter p (f x ++ each f xs)) ≡ length (filter p (f x)) + length (filter p (each f xs))
          → length (filter p (each f xs)) ≤ length (filter q xs) → length (filter p (f x ++ each f xs)) ≤ length (cond b (x ∷ filter q xs) (filter q xs))
      go true l s r = omega arith
      go false l s r = omega arith

  -- where one element of all the lists passes, one of the lists has such an element
  pub one_of_each : (p : B → Bool) (f : A → List B) (xs : List A) → count p (each f xs) ≡ 1 → count (λ x. any p (f x)) xs ≡ 1
  unfolding each count filter
  one_of_each p f [] e = e
  one_of_each p f (x ∷ xs) e = go (any p (f x)) refl (λ h. one_of_each p f xs h)
    where
      sum : count p (f x) + count p (each f xs) ≡ 1
      sum = sym (count_append p (f x) (each f xs)) ∙ e

      rest : any p (f x) ≡ true → (y : _) → Memᴰ y xs → T (any p (f y)) → ⊥
      rest q y m t =
          let w = any_mem p (f x) (rw q tt) in
          let v = any_mem p (f y) t in
          omega (arith, sum, count_some p w.0 (f x) w.1 w.2, count_some p v.0 (each f xs) (mem_each f y v.0 xs m v.1) v.2)

      go : (b : Bool) → any p (f x) ≡ b → (length (filter p (each f xs)) ≡ 1 → length (filter (λ y. any p (f y)) xs) ≡ 1)
          → length (cond b (x ∷ filter (λ y. any p (f y)) xs) (filter (λ y. any p (f y)) xs)) ≡ 1
      go true q r = ap suc (count_zero (λ y. any p (f y)) xs (rest q))
      go false q r =
          let z = count_zero p (f x) (λ y m t. subst T q (any_intro p y (f x) m t)) in
          r (omega (arith, sum))

-- ---- over 0 .. n - 1

module _ (p : ℕ → Bool) where
  -- a number more that passes
  pub count_next : (n : ℕ) → T (p n) → count p (below (suc n)) ≡ suc (count p (below n))
  unfolding below
  count_next n t = count_append p (below n) (n ∷ []) ∙ omega (arith, count_one p n t)

  -- a number more that does not
  pub count_stay : (n : ℕ) → p n ≡ false → count p (below (suc n)) ≡ count p (below n)
  unfolding below
  count_stay n e = count_append p (below n) (n ∷ []) ∙ omega (arith, count_not p n e)

  -- at most n of them pass
  pub count_below_le : (n : ℕ) → count p (below n) ≤ n
  unfolding count
  count_below_le n = subst (λ k. length (filter p (below n)) ≤ k) (length_below n) (filter_le p (below n))

  -- it grows with n
  pub count_mono : (u v : ℕ) → u ≤ v → count p (below u) ≤ count p (below v)
  count_mono u zero h = let e : u ≡ 0 = omega arith in rw e (omega arith)
  count_mono u (suc v) h = go (dec_lt u (suc v)) (λ l. count_mono u v l)
    where
      go : Dec (u < suc v) → (u ≤ v → count p (below u) ≤ count p (below v)) → count p (below u) ≤ count p (below (suc v))
      go (yes l) r = let s = r (le_of_suc-le-suc l) in let q = count_below p v in omega arith
      go (no l) r = let e : u ≡ suc v = omega arith in rw e (omega arith)

  -- and grows past a number that passes
  pub count_strict : (u v : ℕ) → u < v → T (p u) → count p (below u) < count p (below v)
  count_strict u v h t = let s = count_mono (suc u) v h in omega (arith, count_next u t)

  -- two that pass with as many before them are one
  pub count_injective : (u v : ℕ) → T (p u) → T (p v) → count p (below u) ≡ count p (below v) → u ≡ v
  count_injective u v tu tv e = go (dec_lt u v) (dec_lt v u)
    where
      go : Dec (u < v) → Dec (v < u) → u ≡ v
      go (yes l) d = let s = count_strict u v l tu in absurd (omega arith)
      go (no l) (yes m) = let s = count_strict v u m tv in absurd (omega arith)
      go (no l) (no m) = omega arith

-- every number below the count is how many pass before some v that passes
pub count_onto : (p : ℕ → Bool) (n k : ℕ) → k < count p (below n) → (v : ℕ) × (v < n) × T (p v) × (count p (below v) ≡ k)
count_onto p zero k h = let z : k < 0 = unfold count below filter in h in absurd (not-suc-le-zero z)
count_onto p (suc n) k h = go (dec_lt k (count p (below n))) (p n) refl (rw (count_below p n) at h) (λ l. count_onto p n k l)
  where
    go : Dec (k < count p (below n)) → (b : Bool) → p n ≡ b → k < count p (below n) + cond b 1 0
        → (k < count p (below n) → (v : ℕ) × (v < n) × T (p v) × (count p (below v) ≡ k))
        → (v : ℕ) × (v < suc n) × T (p v) × (count p (below v) ≡ k)
    go (yes l) b e h r = let w = r l in (w.0, omega (arith, w.1), w.2, w.3)
    go (no l) true e h r = (n, omega arith, rw e tt, omega arith)
    go (no l) false e h r = absurd (omega arith)

-- tests that agree below n count the same
pub count_below_agree : (p q : ℕ → Bool) (n : ℕ) → ((i : ℕ) → i < n → p i ≡ q i) → count p (below n) ≡ count q (below n)
count_below_agree p q n h = count_agree p q (below n) (all_imp (λ i. i < n) (λ i. p i ≡ q i) h (below n) (below_all n))

-- no number is in 0 .. n - 1 twice
pub below_once : (v n : ℕ) → count (eqb v) (below n) ≤ 1
below_once v zero = unfold below count filter in zero-le
below_once v (suc n) = rw (count_below (eqb v) n) (go (eqb v n) refl (below_once v n))
  where
    none : v ≡ n → (x : ℕ) → Memᴰ x (below n) → T (eqb v x) → ⊥
    none e x m t = let l = below_mem x n m in let q = eqb→eq v x t in omega arith

    go : (b : Bool) → eqb v n ≡ b → count (eqb v) (below n) ≤ 1 → count (eqb v) (below n) + cond b 1 0 ≤ 1
    go true e r = let z = count_zero (eqb v) (below n) (none (eqb-true v n e)) in omega arith
    go false e r = omega arith

-- each number below n is there once
pub below_one : (v n : ℕ) → v < n → count (eqb v) (below n) ≡ 1
below_one v n h = let s = count_some (eqb v) v (below n) (mem_below v n h) (eqb_refl v) in omega (arith, below_once v n)
