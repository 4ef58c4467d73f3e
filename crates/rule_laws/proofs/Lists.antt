-- Laws of the list words of specs/Lists.antt: lists put together and changed, 0 .. n - 1, and a list when marked elements have left. Assumes nothing.
use mathlib.Core.Path.{◌≡◌, refl, sym, ap, ◌∙◌}
use mathlib.Core.Bool.{Bool, true, false, not, cond, not-not}
use mathlib.Core.List.{List, [], ◌∷◌, ◌++◌, map, append_assoc, map-append, map-map}
use Prim.Native.Nat.{ℕ, zero, suc, ◌+◌, ◌*◌, ◌<◌}
use native.Mathlib.Nat.{le_of_suc-le-suc, not-suc-le-zero, zero-add, suc-add}
use native.Mathlib.Numerals.{one-add}
use native.Mathlib.Omega.{arith}
use lib.ListN.{length, get_or, length-append, length-map}
use lib.Dec.{T}
use lib.Ieee.Bits.{is_true}
use Rattle.rules.specs.Lists.{below, filter, count, leave, each, through, times}

-- a function goes under a choice
pub under_cond : {A B : Type 0} (f : A → B) (b : Bool) (x y : A) → f (cond b x y) ≡ cond b (f x) (f y)
under_cond f true x y = refl
under_cond f false x y = refl

-- ---- lists put together, and changed one by one

module _ {A : Type 0} where
  -- a filter takes two lists one after the other
  pub filter_append : (p : A → Bool) (xs ys : List A) → filter p (xs ++ ys) ≡ filter p xs ++ filter p ys
  unfolding filter
  filter_append p [] ys = refl
  filter_append p (x ∷ xs) ys = rw (filter_append p xs ys) (sym (under_cond (λ l. l ++ filter p ys) (p x) (x ∷ filter p xs) (filter p xs)))

  -- an element that passes stays in front
  pub filter_cons : (p : A → Bool) (x : A) (xs : List A) → T (p x) → filter p (x ∷ xs) ≡ x ∷ filter p xs
  unfolding filter
  filter_cons p x xs t = ap (λ (b : Bool). cond b (x ∷ filter p xs) (filter p xs)) (is_true (p x) t)

module _ {A B : Type 0} where
  -- the lists that f makes of two lists, one after the other
  pub each_append : (f : A → List B) (xs ys : List A) → each f (xs ++ ys) ≡ each f xs ++ each f ys
  unfolding each
  each_append f [] ys = refl
  each_append f (x ∷ xs) ys = rw (each_append f xs ys) (sym (append_assoc (f x) (each f xs) (each f ys)))

  -- functions that agree make the same lists
  pub each_same : (h g : A → List B) → ((x : A) → h x ≡ g x) → (xs : List A) → each h xs ≡ each g xs
  unfolding each
  each_same h g e [] = refl
  each_same h g e (x ∷ xs) = rw (e x, each_same h g e xs)

  -- lists of n each are n times as long together
  pub length_each : (n : ℕ) (f : A → List B) → ((x : A) → length (f x) ≡ n) → (xs : List A) → length (each f xs) ≡ n * length xs
  unfolding each
  length_each n f h [] = omega arith
  length_each n f h (x ∷ xs) = length-append (f x) (each f xs) ∙ (let a = h x in let b = length_each n f h xs in omega arith)

  -- a state goes through two lists one after the other
  pub through_append : (f : B → A → B) (s : B) (xs ys : List A) → through f s (xs ++ ys) ≡ through f (through f s xs) ys
  unfolding through
  through_append f s [] ys = refl
  through_append f s (x ∷ xs) ys = through_append f (f s x) xs ys

  -- a state keeps a property that each step keeps
  pub through_keeps :
      (P : B → Type 0) (f : B → A → B) → ((s : B) (x : A) → P s → P (f s x)) → (xs : List A) (s : B) → P s → P (through f s xs)
  unfolding through
  through_keeps P f h [] s p = p
  through_keeps P f h (x ∷ xs) s p = through_keeps P f h xs (f s x) (h s x p)

  -- what a filter leaves of changed elements
  pub filter_map : (p : B → Bool) (f : A → B) (xs : List A) → filter p (map f xs) ≡ map f (filter (λ x. p (f x)) xs)
  unfolding filter
  filter_map p f [] = refl
  filter_map p f (x ∷ xs) =
      rw (filter_map p f xs) (sym (under_cond (λ l. map f l) (p (f x)) (x ∷ filter (λ y. p (f y)) xs) (filter (λ y. p (f y)) xs)))

  -- the changed element at a place within the list
  pub get_or_map_in : (f : A → B) (xs : List A) (k : ℕ) (d : A) (e : B) → k < length xs → get_or (map f xs) k e ≡ f (get_or xs k d)
  get_or_map_in f [] k d e h = absurd (not-suc-le-zero h)
  get_or_map_in f (x ∷ xs) zero d e h = refl
  get_or_map_in f (x ∷ xs) (suc k) d e h = get_or_map_in f xs k d e (le_of_suc-le-suc h)

module _ {A B C : Type 0} where
  -- the lists made of changed elements
  pub each_map : (h : B → List C) (f : A → B) (xs : List A) → each h (map f xs) ≡ each (λ x. h (f x)) xs
  unfolding each
  each_map h f [] = refl
  each_map h f (x ∷ xs) = ap (λ l. h (f x) ++ l) (each_map h f xs)

  -- the elements of all lists, changed
  pub map_each : (f : B → C) (h : A → List B) (xs : List A) → map f (each h xs) ≡ each (λ x. map f (h x)) xs
  unfolding each
  map_each f h [] = refl
  map_each f h (x ∷ xs) = map-append f (h x) (each h xs) ∙ ap (λ l. map f (h x) ++ l) (map_each f h xs)

-- k + m steps are m steps and then k
pub times_add : {A : Type 0} (f : A → A) (k m : ℕ) (v : A) → times (k + m) f v ≡ times k f (times m f v)
unfolding times
times_add f zero m v = ap (λ n. times n f v) (zero-add m)
times_add f (suc k) m v = ap (λ n. times n f v) (suc-add k m) ∙ ap f (times_add f k m v)

-- ---- 0 .. n - 1

-- below, from the other end
pub below_suc : (n : ℕ) → below (suc n) ≡ 0 ∷ map suc (below n)
unfolding below
below_suc zero = refl
below_suc (suc n) = ap (λ l. l ++ (suc n ∷ [])) (below_suc n) ∙ ap (λ l. 0 ∷ l) (sym (map-append suc (below n) (n ∷ [])))

-- it has n elements
pub length_below : (n : ℕ) → length (below n) ≡ n
unfolding below
length_below zero = refl
length_below (suc n) = length-append (below n) (n ∷ []) ∙ rw (length_below n) (omega arith)

-- a state that goes through one number more
pub through_last : {B : Type 0} (f : B → ℕ → B) (s : B) (k : ℕ) → through f s (below (suc k)) ≡ f (through f s (below k)) k
unfolding through below
through_last f s k = through_append f s (below k) (k ∷ [])

-- a count over 0 .. n, by its first place
pub count_below_suc : (m : ℕ → Bool) (n : ℕ) → count m (below (suc n)) ≡ cond (m 0) 1 0 + count (λ i. m (suc i)) (below n)
unfolding count filter
count_below_suc m n =
    rw (below_suc n, filter_map m suc (below n))
    (under_cond length (m 0) (0 ∷ map suc rest) (map suc rest)
    ∙ elim (m 0) as (λ b. cond b (suc (length (map suc rest))) (length (map suc rest)) ≡ cond b 1 0 + length rest) [
      | true ↦ rw (length-map rest suc) (omega arith)
      | false ↦ rw (length-map rest suc) (omega arith)
    ])
  where
    rest : List ℕ
    rest = filter (λ i. m (suc i)) (below n)

-- a count over 0 .. n, by its last place: what a loop from left to right adds
pub count_below : (m : ℕ → Bool) (n : ℕ) → count m (below (suc n)) ≡ count m (below n) + cond (m n) 1 0
unfolding count below filter
count_below m n =
    ap length (filter_append m (below n) (n ∷ []))
    ∙ length-append (filter m (below n)) (cond (m n) (n ∷ []) [])
    ∙ ap (λ k. length (filter m (below n)) + k) (under_cond length (m n) (n ∷ []) [])

-- ---- the list when the marked elements have left

module _ {A : Type 0} where
  -- what is left and what has left make up the list
  pub leave_length : (m : ℕ → Bool) (xs : List A) → length (leave m xs) + count m (below (length xs)) ≡ length xs
  unfolding leave
  leave_length m [] = unfold count filter below in refl
  leave_length m (x ∷ xs) =
      rw (count_below_suc m (length xs))
      (elim (m 0) as (λ b. length (cond b (leave after xs) (x ∷ leave after xs)) + (cond b 1 0 + count after (below (length xs))) ≡ suc (length xs)) [
        | true ↦ let h = leave_length (λ i. m (suc i)) xs in omega arith
        | false ↦ let h = leave_length (λ i. m (suc i)) xs in omega arith
      ])
    where
      after : ℕ → Bool
      after i = m (suc i)

-- the places that stay: the unmarked ones, in their order
abbrev pub stay_at : (ℕ → Bool) → ℕ → List ℕ
stay_at m n = filter (λ i. not (m i)) (below n)

-- they are place 0, unless it is marked, and those after it
pub stay_at_suc :
    (m : ℕ → Bool) (n : ℕ)
    → stay_at m (suc n) ≡ cond (m 0) (map suc (stay_at (λ i. m (suc i)) n)) (0 ∷ map suc (stay_at (λ i. m (suc i)) n))
unfolding filter
stay_at_suc m n =
    rw (below_suc n, filter_map (λ i. not (m i)) suc (below n))
    (elim (m 0) as (λ b. cond (not b) (0 ∷ rest) rest ≡ cond b rest (0 ∷ rest)) [ true ↦ refl | false ↦ refl ])
  where
    rest : List ℕ
    rest = map suc (filter (λ i. not (m (suc i))) (below n))

module _ {A : Type 0} where
  -- what is left, by the places that stay: the elements at the unmarked places, in their order
  pub leave_places :
      (m : ℕ → Bool) (xs : List A) (d : A) → leave m xs ≡ map (λ i. get_or xs i d) (stay_at m (length xs))
  unfolding leave
  leave_places m [] d = unfold filter below in refl
  leave_places m (x ∷ xs) d =
      rw (stay_at_suc m (length xs), leave_places (λ i. m (suc i)) xs d, ← map-map (λ i. get_or (x ∷ xs) i d) suc (stay_at (λ i. m (suc i)) (length xs)))
      (sym (under_cond (λ l. map (λ i. get_or (x ∷ xs) i d) l) (m 0) _ _))

  -- one is left for each place that stays
  pub leave_stay : (m : ℕ → Bool) (xs : List A) → length (leave m xs) ≡ length (stay_at m (length xs))
  leave_stay m [] = unfold leave filter below in refl
  leave_stay m (x ∷ xs) = ap length (leave_places m (x ∷ xs) x) ∙ length-map (stay_at m (suc (length xs))) (λ i. get_or (x ∷ xs) i x)

  -- where those that do not pass leave, as many are left as pass
  pub leave_count : (p : ℕ → Bool) (xs : List A) → length (leave (λ i. not (p i)) xs) ≡ count p (below (length xs))
  unfolding count
  leave_count p xs = leave_stay (λ i. not (p i)) xs ∙ ap (λ (q : ℕ → Bool). length (filter q (below (length xs)))) (λ k i. not-not (p i) k)

  -- where those that do not pass leave, what stands at v then stands after as many as pass before v
  pub leave_at :
      (p : ℕ → Bool) (xs : List A) (v : ℕ) (d : A) → v < length xs → T (p v)
      → get_or (leave (λ i. not (p i)) xs) (count p (below v)) d ≡ get_or xs v d
  unfolding leave
  leave_at p [] v d h t = absurd (not-suc-le-zero h)
  leave_at p (x ∷ xs) zero d h t = go (p 0) t
    where
      go : (b : Bool) → T b → get_or (cond (not b) (leave (λ i. not (p (suc i))) xs) (x ∷ leave (λ i. not (p (suc i))) xs)) (count p (below 0)) d ≡ x
      go true t = unfold count below filter in refl
      go false t = absurd t
  leave_at p (x ∷ xs) (suc v) d h t = rw (count_below_suc p v) (go (p 0) (leave_at (λ i. p (suc i)) xs v d (le_of_suc-le-suc h) t))
    where
      go : (b : Bool) → get_or (leave (λ i. not (p (suc i))) xs) (count (λ i. p (suc i)) (below v)) d ≡ get_or xs v d
          → get_or (cond (not b) (leave (λ i. not (p (suc i))) xs) (x ∷ leave (λ i. not (p (suc i))) xs)) (cond b 1 0 + count (λ i. p (suc i)) (below v)) d ≡ get_or xs v d
      go true r = rw one-add r
      go false r = rw zero-add r
