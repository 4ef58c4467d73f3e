-- Lists whose every element has a property, and lists of numbers that rise strictly: 0 .. n - 1, and the places that stay. Assumes nothing.
use mathlib.Core.Path.{◌≡◌, refl, sym, ap, ◌∙◌}
use mathlib.Core.Bool.{Bool, true, false, not, cond}
use mathlib.Core.List.{List, [], ◌∷◌, ◌++◌, map, append_assoc}
use Prim.Native.Nat.{ℕ, zero, suc, ◌≤◌, ◌<◌, zero-le, suc-le-suc}
use native.Mathlib.Nat.{le_of_suc-le-suc, not-suc-le-zero, le_trans}
use native.Mathlib.Omega.{arith}
use lib.ListN.{length, get_or, get_or-append}
use lib.Seq.{get_or_at}
use native.Mathlib.Decide.{ℕ_discrete, dec_lt}
use lib.Dec.{T}
use Rattle.rules.specs.Lists.{below, filter, each, leave}
use Rattle.rule_laws.proofs.Lists.{below_suc, stay_at, stay_at_suc, length_below}

module _ {A : Type 0} where
  -- every element has the property
  abbrev pub All : (A → Type 0) → List A → Type 0
  All P [] = Unit {0}
  All P (x ∷ xs) = P x × All P xs

  -- so has the one at a place
  pub all_at : (P : A → Type 0) (xs : List A) (d : A) (k : ℕ) → All P xs → k < length xs → P (get_or xs k d)
  all_at P [] d k h lt = absurd (not-suc-le-zero lt)
  all_at P (x ∷ xs) d zero h lt = h.0
  all_at P (x ∷ xs) d (suc k) h lt = all_at P xs d k h.1 (le_of_suc-le-suc lt)

  -- what holds at every place holds of every element
  pub all_from : (P : A → Type 0) (d : A) (xs : List A) → ((k : ℕ) → k < length xs → P (get_or xs k d)) → All P xs
  all_from P d [] h = tt
  all_from P d (x ∷ xs) h = (h 0 (suc-le-suc zero-le), all_from P d xs (λ k l. h (suc k) (suc-le-suc l)))

  -- two lists, one after the other
  pub all_append : (P : A → Type 0) (xs ys : List A) → All P xs → All P ys → All P (xs ++ ys)
  all_append P [] ys h k = k
  all_append P (x ∷ xs) ys h k = (h.0, all_append P xs ys h.1 k)

  -- a weaker property
  pub all_imp : (P Q : A → Type 0) → ((x : A) → P x → Q x) → (xs : List A) → All P xs → All Q xs
  all_imp P Q f [] h = tt
  all_imp P Q f (x ∷ xs) h = (f x h.0, all_imp P Q f xs h.1)

  -- what a filter leaves passes its test, and keeps every property
  pub all_filter : (P : A → Type 0) (p : A → Bool) (xs : List A) → All P xs → All (λ x. P x × T (p x)) (filter p xs)
  unfolding filter
  all_filter P p [] h = tt
  all_filter P p (x ∷ xs) h = go (p x) refl (all_filter P p xs h.1)
    where
      go : (b : Bool) → p x ≡ b → All (λ y. P y × T (p y)) (filter p xs) → All (λ y. P y × T (p y)) (cond b (x ∷ filter p xs) (filter p xs))
      go true e r = ((h.0, rw e tt), r)
      go false e r = r

  -- what is left passes the test by which the others left
  pub left_passes : (p : A → Bool) (d : A) (xs : List A) → All (λ x. T (not (p x))) (leave (λ i. p (get_or xs i d)) xs)
  unfolding leave
  left_passes p d [] = tt
  left_passes p d (x ∷ xs) = go (p x) refl (left_passes p d xs)
    where
      go : (b : Bool) → p x ≡ b → All (λ y. T (not (p y))) (leave (λ i. p (get_or xs i d)) xs)
          → All (λ y. T (not (p y))) (cond b (leave (λ i. p (get_or xs i d)) xs) (x ∷ leave (λ i. p (get_or xs i d)) xs))
      go true e r = r
      go false e r = (rw e tt, r)

  -- what is left keeps every property
  pub all_leave : (Q : A → Type 0) (m : ℕ → Bool) (xs : List A) → All Q xs → All Q (leave m xs)
  unfolding leave
  all_leave Q m [] h = tt
  all_leave Q m (x ∷ xs) h = go (m 0) (all_leave Q (λ i. m (suc i)) xs h.1)
    where
      go : (b : Bool) → All Q (leave (λ i. m (suc i)) xs) → All Q (cond b (leave (λ i. m (suc i)) xs) (x ∷ leave (λ i. m (suc i)) xs))
      go true r = r
      go false r = (h.0, r)

module _ {A B : Type 0} where
  -- what the changed elements have
  pub all_map : (Q : B → Type 0) (f : A → B) (xs : List A) → All (λ x. Q (f x)) xs → All Q (map f xs)
  all_map Q f [] h = tt
  all_map Q f (x ∷ xs) h = (h.0, all_map Q f xs h.1)

  -- what all elements of all lists have
  pub all_each : (Q : B → Type 0) (f : A → List B) (xs : List A) → All (λ x. All Q (f x)) xs → All Q (each f xs)
  unfolding each
  all_each Q f [] h = tt
  all_each Q f (x ∷ xs) h = all_append Q (f x) (each f xs) h.0 (all_each Q f xs h.1)

  -- functions that agree on the elements change them the same
  pub map_same : (f g : A → B) (xs : List A) → All (λ x. f x ≡ g x) xs → map f xs ≡ map g xs
  map_same f g [] h = refl
  map_same f g (x ∷ xs) h = rw (h.0, map_same f g xs h.1)

-- ---- 0 .. n - 1

-- its numbers are below n
pub below_all : (n : ℕ) → All (λ x. x < n) (below n)
unfolding below
below_all zero = tt
below_all (suc n) =
    all_append (λ x. x < suc n) (below n) (n ∷ [])
    (all_imp (λ x. x < n) (λ x. x < suc n) (λ x h. omega arith) (below n) (below_all n)) (omega arith, tt)

-- at place k stands k
pub get_or_below : (n k : ℕ) → k < n → get_or (below n) k 0 ≡ k
unfolding below
get_or_below zero k h = absurd (not-suc-le-zero h)
get_or_below (suc n) k h = go (dec_lt k n) (λ l. get_or_below n k l)
  where
    go : Dec (k < n) → (k < n → get_or (below n) k 0 ≡ k) → get_or (below n ++ (n ∷ [])) k 0 ≡ k
    go (yes l) r = get_or-append (below n) (n ∷ []) 0 k (rw (length_below n) l) ∙ r l
    go (no l) r =
        let e : n ≡ k = omega arith in
        get_or_at (below n) n [] 0 k (length_below n ∙ e) ∙ e

-- 0 .. n - 1 falls apart at l
pub below_at : (l n : ℕ) → l < n → (ys : List ℕ) × (below n ≡ below l ++ (l ∷ ys)) × All (λ y. (l < y) × (y < n)) ys
unfolding below
below_at l zero h = absurd (not-suc-le-zero h)
below_at l (suc n) h = go (ℕ_discrete l n) (λ k. below_at l n k)
  where
    go : Dec (l ≡ n) → (l < n → (ys : List ℕ) × (below n ≡ below l ++ (l ∷ ys)) × All (λ y. (l < y) × (y < n)) ys) → (ys : List ℕ) × (below n ++ (n ∷ []) ≡ below l ++ (l ∷ ys)) × All (λ y. (l < y) × (y < suc n)) ys
    go (yes e) r = ([], ap (λ (z : ℕ). below z ++ (z ∷ [])) (sym e), tt)
    go (no e) r =
        let k : l < n = omega arith in
        let w = r k in
        (w.0 ++ (n ∷ []), ap (λ (z : List ℕ). z ++ (n ∷ [])) w.1 ∙ append_assoc (below l) (l ∷ w.0) (n ∷ []), all_append (λ y. (l < y) × (y < suc n)) w.0 (n ∷ []) (all_imp (λ y. (l < y) × (y < n)) (λ y. (l < y) × (y < suc n)) (λ y q. (q.0, omega (arith, q.1))) w.0 w.2) ((k, omega arith), tt))

-- ---- lists that rise

-- a list that rises strictly, from a on
abbrev pub Up : ℕ → List ℕ → Type 0
Up a [] = Unit {0}
Up a (x ∷ xs) = (a ≤ x) × Up (suc x) xs

-- each number one higher
up_suc : (a : ℕ) (xs : List ℕ) → Up a xs → Up (suc a) (map suc xs)
up_suc a [] h = tt
up_suc a (x ∷ xs) h = (suc-le-suc h.0, up_suc (suc x) xs h.1)

-- from an earlier beginning
up_less : (a b : ℕ) (xs : List ℕ) → a ≤ b → Up b xs → Up a xs
up_less a b [] le h = tt
up_less a b (x ∷ xs) le h = (le_trans le h.0, h.1)

-- 0 .. n - 1 rises
pub below_up : (n : ℕ) → Up 0 (below n)
below_up zero = unfold below in tt
below_up (suc n) = rw (below_suc n) (zero-le, up_suc 0 (below n) (below_up n))

-- the places that stay rise: what is left keeps its order
pub stay_up : (m : ℕ → Bool) (n : ℕ) → Up 0 (stay_at m n)
stay_up m zero = unfold filter below in tt
stay_up m (suc n) = rw (stay_at_suc m n) (go (m 0) (up_suc 0 (stay_at (λ i. m (suc i)) n) (stay_up (λ i. m (suc i)) n)))
  where
    rest : List ℕ
    rest = map suc (stay_at (λ i. m (suc i)) n)

    go : (b : Bool) → Up 1 rest → Up 0 (cond b rest (0 ∷ rest))
    go true up = up_less 0 1 rest zero-le up
    go false up = (zero-le, up)

-- a later element of a rising list is larger
pub up_at : (a : ℕ) (xs : List ℕ) (k l : ℕ) → Up a xs → k < l → l < length xs → get_or xs k 0 < get_or xs l 0
up_at a [] k l h kl lt = absurd (not-suc-le-zero lt)
up_at a (x ∷ xs) k zero h kl lt = absurd (not-suc-le-zero kl)
up_at a (x ∷ xs) zero (suc l) h kl lt = up_from (suc x) xs l h.1 (le_of_suc-le-suc lt)
  where
    up_from : (b : ℕ) (ys : List ℕ) (j : ℕ) → Up b ys → j < length ys → b ≤ get_or ys j 0
    up_from b [] j h lt = absurd (not-suc-le-zero lt)
    up_from b (y ∷ ys) zero h lt = h.0
    up_from b (y ∷ ys) (suc j) h lt = let r = up_from (suc y) ys j h.1 (le_of_suc-le-suc lt) in let e = h.0 in omega arith
up_at a (x ∷ xs) (suc k) (suc l) h kl lt = up_at (suc x) xs k l h.1 (le_of_suc-le-suc kl) (le_of_suc-le-suc lt)

-- the places that stay are places, and unmarked
pub stay_all : (m : ℕ → Bool) (n : ℕ) → All (λ i. (i < n) × T (not (m i))) (stay_at m n)
stay_all m n = all_filter (λ i. i < n) (λ i. not (m i)) (below n) (below_all n)
