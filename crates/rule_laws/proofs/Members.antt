-- The members of a list: of what a filter leaves, of 0 .. n - 1, of lists put together, at a place; and what `any`, `all` and `has` say of them.
-- Assumes nothing.
use mathlib.Core.Path.{◌≡◌, refl, sym, ◌∙◌, subst}
use mathlib.Core.Logic.{◌⊎◌, inl, inr}
use mathlib.Core.Bool.{Bool, true, false, ◌&&◌, ◌||◌, cond, true≢false}
use mathlib.Core.List.Memᴰ
use mathlib.Core.List.{List, [], ◌∷◌, ◌++◌, Memᴰ}
use Prim.Native.Nat.{ℕ, zero, suc, ◌≤◌, ◌<◌, zero-le, suc-le-suc}
use native.Mathlib.Omega.{arith}
use native.Mathlib.Nat.{le_of_suc-le-suc, not-suc-le-zero}
use native.Mathlib.Decide.{ℕ_discrete}
use lib.ListN.{length, get_or}
use lib.Dec.{T, eqb, eqb→eq, eqb_refl}
use lib.Ieee.Fits.{and_i}
use Rattle.rules.specs.Lists.{below, filter, any, all, each, has}
use Rattle.rule_laws.proofs.Tests.{and_elim, or_left, or_right}
use Rattle.rule_laws.proofs.Rising.{All, all_filter, below_all}

-- ---- members and elements

module _ {A : Type 0} where
  -- what every member has, every element has
  pub in_all : (Q : A → Type 0) (xs : List A) → ((x : A) → Memᴰ x xs → Q x) → All Q xs
  in_all Q [] h = tt
  in_all Q (x ∷ xs) h = (h x (Memᴰ.head refl), in_all Q xs (λ y m. h y (Memᴰ.tail m)))

  -- what every element has, a member has
  pub all_in : (Q : A → Type 0) (x : A) (xs : List A) → All Q xs → Memᴰ x xs → Q x
  all_in Q x (y ∷ ys) h (Memᴰ.head e) = subst Q (sym e) h.0
  all_in Q x (y ∷ ys) h (Memᴰ.tail m) = all_in Q x ys h.1 m
  all_in Q x [] h x3 = elim x3 [ ]

  -- every element is a member
  pub all_members : (xs : List A) → All (λ x. Memᴰ x xs) xs
  all_members xs = in_all (λ x. Memᴰ x xs) xs (λ x m. m)

  -- what stands at a place is a member
  pub mem_at : (xs : List A) (k : ℕ) (d : A) → k < length xs → Memᴰ (get_or xs k d) xs
  mem_at [] k d h = absurd (not-suc-le-zero h)
  mem_at (x ∷ xs) zero d h = Memᴰ.head refl
  mem_at (x ∷ xs) (suc k) d h = Memᴰ.tail (mem_at xs k d (le_of_suc-le-suc h))

  -- a member stands at some place
  pub mem_index : (d x : A) (xs : List A) → Memᴰ x xs → (k : ℕ) × (k < length xs) × (get_or xs k d ≡ x)
  mem_index d x (y ∷ ys) (Memᴰ.head e) = (0, suc-le-suc zero-le, sym e)
  mem_index d x (y ∷ ys) (Memᴰ.tail m) = let w = mem_index d x ys m in (suc w.0, suc-le-suc w.1, w.2)
  mem_index d x [] x'' = elim x'' [ ]

  -- a list with a member is not empty
  pub some_length : (x : A) (xs : List A) → Memᴰ x xs → 0 < length xs
  some_length x [] m = absurd (Memᴰ.not-nil m)
  some_length x (y ∷ ys) m = suc-le-suc zero-le

  -- two members of a list of at most one are equal
  pub single : (x y : A) (xs : List A) → length xs ≤ 1 → Memᴰ x xs → Memᴰ y xs → x ≡ y
  single x y [] h m k = absurd (Memᴰ.not-nil m)
  single x y (z ∷ []) h m k = Memᴰ.eq_of_singleton m ∙ sym (Memᴰ.eq_of_singleton k)
  single x y (z ∷ w ∷ xs) h m k = absurd (omega arith)

  -- the members of a list of three
  pub mem_three : {x a b c : A} → Memᴰ x (a ∷ b ∷ c ∷ []) → (x ≡ a) ⊎ ((x ≡ b) ⊎ (x ≡ c))
  mem_three (Memᴰ.head e) = inl e
  mem_three (Memᴰ.tail (Memᴰ.head e)) = inr (inl e)
  mem_three (Memᴰ.tail (Memᴰ.tail m)) = inr (inr (Memᴰ.eq_of_singleton m))

  -- ---- the members of what a filter leaves are the members that pass

  -- a member that passes is left
  pub mem_filter : (p : A → Bool) (x : A) (xs : List A) → Memᴰ x xs → T (p x) → Memᴰ x (filter p xs)
  unfolding filter
  mem_filter p x (y ∷ ys) (Memᴰ.head e) t = go (p y) (subst (λ z. T (p z)) e t)
    where
      go : (b : Bool) → T b → Memᴰ x (cond b (y ∷ filter p ys) (filter p ys))
      go true t = Memᴰ.head e
      go false t = absurd t
  mem_filter p x (y ∷ ys) (Memᴰ.tail m) t = go (p y) (mem_filter p x ys m t)
    where
      go : (b : Bool) → Memᴰ x (filter p ys) → Memᴰ x (cond b (y ∷ filter p ys) (filter p ys))
      go true r = Memᴰ.tail r
      go false r = r
  mem_filter p x [] x3 t = elim x3 [ ]

  -- what is left is a member, and passes
  pub mem_left : (p : A → Bool) (x : A) (xs : List A) → Memᴰ x (filter p xs) → Memᴰ x xs × T (p x)
  mem_left p x xs m = all_in (λ y. Memᴰ y xs × T (p y)) x (filter p xs) (all_filter (λ y. Memᴰ y xs) p xs (all_members xs)) m

  -- where none passes, nothing is left
  pub none_filter : (p : A → Bool) (xs : List A) → any p xs ≡ false → filter p xs ≡ []
  unfolding any filter
  none_filter p [] e = refl
  none_filter p (x ∷ xs) e = go (p x) e (λ r. none_filter p xs r)
    where
      go : (b : Bool) → (b || any p xs) ≡ false → (any p xs ≡ false → filter p xs ≡ []) → cond b (x ∷ filter p xs) (filter p xs) ≡ []
      go true e r = absurd (true≢false e)
      go false e r = r e

  -- ---- some member passes, all members pass

  -- where a member passes, some passes
  pub any_intro : (p : A → Bool) (x : A) (xs : List A) → Memᴰ x xs → T (p x) → T (any p xs)
  unfolding any
  any_intro p x (y ∷ ys) (Memᴰ.head e) t = or_left (p y) (any p ys) (subst (λ z. T (p z)) e t)
  any_intro p x (y ∷ ys) (Memᴰ.tail m) t = or_right (p y) (any p ys) (any_intro p x ys m t)
  any_intro p x [] x3 t = elim x3 [ ]

  -- where some passes, which
  pub any_mem : (p : A → Bool) (xs : List A) → T (any p xs) → (x : A) × Memᴰ x xs × T (p x)
  unfolding any
  any_mem p [] t = absurd t
  any_mem p (x ∷ xs) t = go (p x) refl t (λ r. any_mem p xs r)
    where
      go : (b : Bool) → p x ≡ b → T (b || any p xs) → (T (any p xs) → (y : _) × Memᴰ y xs × T (p y)) → (y : _) × Memᴰ y (x ∷ xs) × T (p y)
      go true e t r = (x, Memᴰ.head refl, rw e tt)
      go false e t r = let w = r t in (w.0, Memᴰ.tail w.1, w.2)

  -- where some passes and all have a property, one that passes has it
  pub any_elim : (p : A → Bool) (Q : A → Type 0) (xs : List A) → All Q xs → T (any p xs) → (x : A) × Q x × T (p x)
  any_elim p Q xs h t = let w = any_mem p xs t in (w.0, all_in Q w.0 xs h w.1, w.2)

  -- where all pass, each does
  pub all_elim : (p : A → Bool) (xs : List A) → T (all p xs) → All (λ x. T (p x)) xs
  unfolding all
  all_elim p [] t = tt
  all_elim p (x ∷ xs) t = let b = and_elim (p x) (all p xs) t in (b.0, all_elim p xs b.1)

  -- where each passes, all do
  pub all_intro : (p : A → Bool) (xs : List A) → All (λ x. T (p x)) xs → T (all p xs)
  unfolding all
  all_intro p [] h = tt
  all_intro p (x ∷ xs) h = and_i (p x) (all p xs) h.0 (all_intro p xs h.1)

  -- where not all pass, one that does not
  pub all_not : (p : A → Bool) (xs : List A) → all p xs ≡ false → (x : A) × Memᴰ x xs × (p x ≡ false)
  unfolding all
  all_not p [] e = absurd (true≢false e)
  all_not p (x ∷ xs) e = go (p x) refl e (λ r. all_not p xs r)
    where
      go : (b : Bool) → p x ≡ b → (b && all p xs) ≡ false → (all p xs ≡ false → (y : _) × Memᴰ y xs × (p y ≡ false)) → (y : _) × Memᴰ y (x ∷ xs) × (p y ≡ false)
      go true q e r = let w = r e in (w.0, Memᴰ.tail w.1, w.2)
      go false q e r = (x, Memᴰ.head refl, q)

-- ---- lists put together

module _ {A B : Type 0} where
  -- what is in the list of a member is in all the lists together
  pub mem_each : (f : A → List B) (x : A) (y : B) (xs : List A) → Memᴰ x xs → Memᴰ y (f x) → Memᴰ y (each f xs)
  unfolding each
  mem_each f x y (z ∷ zs) (Memᴰ.head e) m = Memᴰ.append_left (each f zs) (subst (λ w. Memᴰ y (f w)) e m)
  mem_each f x y (z ∷ zs) (Memᴰ.tail k) m = Memᴰ.append_right (f z) (mem_each f x y zs k m)
  mem_each f x y [] x3 m = elim x3 [ ]

  -- what is in all the lists together is in the list of some member
  pub mem_each_of : (f : A → List B) (y : B) (xs : List A) → Memᴰ y (each f xs) → (x : A) × Memᴰ x xs × Memᴰ y (f x)
  unfolding each
  mem_each_of f y [] m = absurd (Memᴰ.not-nil m)
  mem_each_of f y (x ∷ xs) m = go (Memᴰ.append_cases (f x) m) (λ k. mem_each_of f y xs k)
    where
      go : Memᴰ y (f x) ⊎ Memᴰ y (each f xs) → (Memᴰ y (each f xs) → (z : A) × Memᴰ z xs × Memᴰ y (f z))
          → (z : A) × Memᴰ z (x ∷ xs) × Memᴰ y (f z)
      go (inl k) r = (x, Memᴰ.head refl, k)
      go (inr k) r = let w = r k in (w.0, Memᴰ.tail w.1, w.2)

-- ---- 0 .. n - 1 has exactly the numbers below n

-- a number below n is in it
pub mem_below : (i n : ℕ) → i < n → Memᴰ i (below n)
unfolding below
mem_below i zero h = absurd (not-suc-le-zero h)
mem_below i (suc n) h = go (ℕ_discrete i n) (λ k. mem_below i n k)
  where
    go : Dec (i ≡ n) → (i < n → Memᴰ i (below n)) → Memᴰ i (below n ++ (n ∷ []))
    go (yes e) r = Memᴰ.append_right (below n) (Memᴰ.head e)
    go (no ne) r = Memᴰ.append_left (n ∷ []) (r (omega arith))

-- nothing else is
pub below_mem : (i n : ℕ) → Memᴰ i (below n) → i < n
below_mem i n m = all_in (λ x. x < n) i (below n) (below_all n) m

-- ---- `has` is membership

-- a member is found
pub mem_has : (j : ℕ) (xs : List ℕ) → Memᴰ j xs → T (has j xs)
unfolding has
mem_has j xs m = any_intro (eqb j) j xs m (eqb_refl j)

-- what is found is a member
pub has_mem : (j : ℕ) (xs : List ℕ) → T (has j xs) → Memᴰ j xs
unfolding has
has_mem j xs t = let w = any_mem (eqb j) xs t in Memᴰ.cast (eqb→eq j w.0 w.2) w.1
