-- The entries of a face list by their numbers, and the sorted entries as a list: for each edge, in order, the entries under it. For both kinds at once.
-- Assumes nothing.
use mathlib.Core.Path.{◌≡◌, refl, sym, ap, ◌∙◌}
use mathlib.Core.Bool.{Bool, true, false, ◌&&◌, ◌||◌, cond}
use mathlib.Core.List.{List, [], ◌∷◌, ◌++◌, map, append-nil, map-map}
use Prim.Native.Nat.{ℕ, zero, suc, ◌*◌, ◌/◌, ◌%◌, ◌<◌}
use native.Mathlib.Omega.{arith}
use native.Mathlib.Nat.{not-suc-le-zero}
use native.Mathlib.Decide.{ℕ_discrete}
use borrow.Author.Tests.{eq-eqb, ne_eqb}
use lib.Dec.{eqb}
use lib.ListN.{length, get_or}
use Rattle.rows.specs.Filter.{keep}
use Rattle.sorting.specs.Groups.{having, sorted_by, sorted_by_all}
use Rattle.rows.specs.Filter as rows-filter
use Rattle.rows.specs.Retain.{up_to}
use Rattle.sorting.proofs.GroupLaws.{filter_sorted}
use Rattle.rules.specs.Lists.{below, filter, any, each}
use Rattle.rules.specs.Mesh.{Face, faces_from, faces_of}
use Rattle.rules.specs.Steps.{Step, step, steps, edge, same, Entry, entries, users, walkers, pairs, edges, directed}
use Rattle.rule_laws.proofs.Lists.{below_suc, filter_map, each_append, each_same, each_map}
use Rattle.rule_laws.proofs.Members.{none_filter}
use Rattle.rule_laws.proofs.Flat.{length_faces}
use Rattle.rule_laws.proofs.Rising.{All, all_imp, below_all}
use Rattle.rule_laws.proofs.Takers.{later, entries_cons}
use Rattle.table.specs.Entries.{next, step_at, under, ids_of, keys_of}

-- ---- lists

-- the lists made of the elements of lists
each_each : {A B C : Type 0} (h : B → List C) (f : A → List B) (xs : List A) → each h (each f xs) ≡ each (λ x. each h (f x)) xs
unfolding each
each_each h f [] = refl
each_each h f (x ∷ xs) = each_append h (f x) (each f xs) ∙ ap (λ l. each h (f x) ++ l) (each_each h f xs)

module _ {A B : Type 0} where
  -- elements of which h makes nothing may be left out
  each_filter : (h : A → List B) (p : A → Bool) → ((x : A) → p x ≡ false → h x ≡ []) → (xs : List A) → each h (filter p xs) ≡ each h xs
  unfolding each filter
  each_filter h p e [] = refl
  each_filter h p e (x ∷ xs) = go (p x) refl (each_filter h p e xs)
    where
      go : (b : Bool) → p x ≡ b → each h (filter p xs) ≡ each h xs → each h (cond b (x ∷ filter p xs) (filter p xs)) ≡ h x ++ each h xs
      go true s r = ap (λ l. h x ++ l) r
      go false s r = r ∙ ap (λ l. l ++ each h xs) (sym (e x s))

  -- whether some changed element passes
  any_map : (p : B → Bool) (f : A → B) (xs : List A) → any p (map f xs) ≡ any (λ x. p (f x)) xs
  unfolding any
  any_map p f [] = refl
  any_map p f (x ∷ xs) = ap (λ b. p (f x) || b) (any_map p f xs)

-- tests that agree leave the same
filter_agree : {A : Type 0} (p q : A → Bool) (xs : List A) → All (λ x. p x ≡ q x) xs → filter p xs ≡ filter q xs
unfolding filter
filter_agree p q [] a = refl
filter_agree p q (x ∷ xs) a = rw (a.0, filter_agree p q xs a.1)

-- ---- an entry's step

-- entry number id
unfoldable pub entry_at : List Face → ℕ → Entry
entry_at fs id = record { by = id / 3; along = step_at fs id }

-- the entry of the faces behind the first, with its number as one of all
one_later : (f : Face) (fs : List Face) (i : ℕ) → later (entry_at fs i) ≡ entry_at (f ∷ fs) (suc (suc (suc i)))
unfolding later entry_at step_at each
one_later f fs i = let q : suc (i / 3) ≡ suc (suc (suc i)) / 3 = omega arith in ap (λ b. record { by = b; along = step_at fs i }) q

-- the first face has the first three entries
front : (f : Face) (fs : List Face) {k l : List Entry} → k ≡ l → map (λ s. record { by = 0; along = s }) (steps f) ++ k ≡ entry_at (f ∷ fs) 0 ∷ entry_at (f ∷ fs) 1 ∷ entry_at (f ∷ fs) 2 ∷ l
unfolding entry_at step_at each
front f fs {k} {l} r = ap (λ z. map (λ s. record { by = 0; along = s }) (steps f) ++ z) r

-- all entries, by their numbers
pub entries_ids : (fs : List Face) → entries fs ≡ map (entry_at fs) (below (3 * length fs))
entries_ids [] = unfold entries each below in refl
entries_ids (f ∷ fs) =
    let n = 3 * length fs in
    let e : 3 * suc (length fs) ≡ suc (suc (suc n)) = omega arith in
    let g = entry_at (f ∷ fs) in
    let t : map later (map (entry_at fs) (below n)) ≡ map g (map suc (map suc (map suc (below n)))) =
    map-map later (entry_at fs) (below n)
    ∙ ap (λ (h : ℕ → Entry). map h (below n)) (λ k i. one_later f fs i k)
    ∙ sym (ap (map g) (ap (map suc) (map-map suc suc (below n)) ∙ map-map suc (λ i. suc (suc i)) (below n)) ∙ map-map g (λ i. suc (suc (suc i))) (below n)) in
    entries_cons f fs
    ∙ ap (λ l. map (λ s. record { by = 0; along = s }) (steps f) ++ map later l) (entries_ids fs)
    ∙ rw (e, below_suc (suc (suc n)), below_suc (suc n), below_suc n) (front f fs t)

-- the faces of the entries whose step passes a test
module _ (p : Step → Bool) (fs : List Face) where
  -- each by the number of the entry
  pub uses_ids : map (λ n. n.by) (filter (λ n. p n.along) (entries fs)) ≡ map (λ id. id / 3) (filter (λ id. p (step_at fs id)) (below (3 * length fs)))
  unfolding entry_at
  uses_ids =
      rw (entries_ids fs, filter_map (λ n. p n.along) (entry_at fs) (below (3 * length fs)))
      (map-map (λ n. n.by) (entry_at fs) (filter (λ id. p (step_at fs id)) (below (3 * length fs))))

  -- whether there is such an entry
  pub any_ids : any (λ n. p n.along) (entries fs) ≡ any (λ id. p (step_at fs id)) (below (3 * length fs))
  unfolding entry_at
  any_ids = rw (entries_ids fs) (any_map (λ n. p n.along) (entry_at fs) (below (3 * length fs)))

-- the users: the numbers of the entries, by three
pub users_ids : (fs : List Face) (e : Step) → users fs e ≡ map (λ id. id / 3) (ids_of false fs e)
unfolding users ids_of
users_ids fs e = uses_ids (λ s. same e (edge s)) fs

-- the walkers
pub walkers_ids : (fs : List Face) (e : Step) → walkers fs e ≡ map (λ id. id / 3) (ids_of true fs e)
unfolding walkers ids_of
walkers_ids fs e = uses_ids (same e) fs

-- the undirected table is sorted by the rules' edges
pub edges_keys : (P : ℕ) (fs : List Face) → keys_of false P fs ≡ edges P fs
unfolding keys_of edges
edges_keys P fs = refl

-- the directed one by their directed edges
pub directed_keys : (P : ℕ) (fs : List Face) → keys_of true P fs ≡ directed P fs
unfolding keys_of directed
directed_keys P fs = refl

-- ---- the step of an entry, from the flat list

-- the next corner, three further on
next_more : (i : ℕ) → next (suc (suc (suc i))) ≡ suc (suc (suc (next i)))
next_more i = go (ℕ_discrete (i % 3) 2)
  where
    go : Dec (i % 3 ≡ 2) → next (suc (suc (suc i))) ≡ suc (suc (suc (next i)))
    go (yes e) =
        let f : suc (suc (suc i)) % 3 ≡ 2 = omega arith in
        rw (eq-eqb (i % 3) 2 e, eq-eqb (suc (suc (suc i)) % 3) 2 f) (omega arith)
    go (no e) =
        let f : suc (suc (suc i)) % 3 ≡ 2 → ⊥ = omega arith in
        rw (ne_eqb (i % 3) 2 e, ne_eqb (suc (suc (suc i)) % 3) 2 f) (omega arith)

-- from the corner at the entry's place to the next one
step_from : (k : ℕ) (xs : List ℕ) → length xs % 3 ≡ 0 → (i : ℕ) → i < length xs → step_at (faces_from k xs) i ≡ step (get_or xs i 0) (get_or xs (next i) 0)
unfolding step_at faces_from each
step_from k [] w i h = absurd (not-suc-le-zero h)
step_from k (a ∷ []) w i h = absurd (omega arith)
step_from k (a ∷ b ∷ []) w i h = absurd (omega arith)
step_from k (a ∷ b ∷ c ∷ xs) w zero h = refl
step_from k (a ∷ b ∷ c ∷ xs) w (suc zero) h = refl
step_from k (a ∷ b ∷ c ∷ xs) w (suc (suc zero)) h = refl
step_from k (a ∷ b ∷ c ∷ xs) w (suc (suc (suc i))) h = rw (next_more i) (step_from (suc k) xs (omega arith) i (omega arith))

pub step_flat : (xs : List ℕ) → length xs % 3 ≡ 0 → (i : ℕ) → i < length xs → step_at (faces_of xs) i ≡ step (get_or xs i 0) (get_or xs (next i) 0)
step_flat xs w i h = step_from 0 xs w i h

-- the next corner is in the list
pub next_in : (n i : ℕ) → n % 3 ≡ 0 → i < n → next i < n
next_in n i w h = go (ℕ_discrete (i % 3) 2)
  where
    go : Dec (i % 3 ≡ 2) → next i < n
    go (yes e) = rw (eq-eqb (i % 3) 2 e) (omega arith)
    go (no e) = rw (ne_eqb (i % 3) 2 e) (omega arith)

-- three entries for each face
pub three_faces : (xs : List ℕ) → length xs % 3 ≡ 0 → 3 * length (faces_of xs) ≡ length xs
three_faces xs w = omega (arith, length_faces xs)

-- ---- the sorted entries

-- two filters of the rows, one after the other, are one of the rules
filter_both : (p q : ℕ → Bool) (xs : List ℕ) → rows-filter.filter q (rows-filter.filter p xs) ≡ filter (λ x. p x && q x) xs
unfolding filter
filter_both p q [] = refl
filter_both p q (x ∷ xs) = go (p x) (q x) refl (filter_both p q xs)
  where
    go : (a b : Bool) → q x ≡ b → rows-filter.filter q (rows-filter.filter p xs) ≡ filter (λ y. p y && q y) xs → rows-filter.filter q (keep a x (rows-filter.filter p xs)) ≡ cond (a && q x) (x ∷ filter (λ y. p y && q y) xs) (filter (λ y. p y && q y) xs)
    go true true e r = rw e (ap (λ l. x ∷ l) r)
    go true false e r = rw e r
    go false b e r = r

-- 0, 1, .., n - 1 by both names
pub up_to_below : (n : ℕ) → up_to n ≡ below n
unfolding below
up_to_below zero = refl
up_to_below (suc n) = ap (λ l. l ++ (n ∷ [])) (up_to_below n)

-- equality of numbers, turned round
eqb_turn : (a b : ℕ) → eqb a b ≡ eqb b a
eqb_turn a b = go (ℕ_discrete a b)
  where
    go : Dec (a ≡ b) → eqb a b ≡ eqb b a
    go (yes e) = eq-eqb a b e ∙ sym (eq-eqb b a (sym e))
    go (no e) = ne_eqb a b e ∙ sym (ne_eqb b a (λ r. e (sym r)))

-- one number more
pub each_snoc : {B : Type 0} (h : ℕ → List B) (n : ℕ) → each h (below (suc n)) ≡ each h (below n) ++ h n
unfolding below each
each_snoc h n = each_append h (below n) (n ∷ []) ∙ ap (λ l. each h (below n) ++ l) (append-nil (h n))

module _ (f : ℕ → ℕ) where
  -- sorting by a key puts one group after the other
  sorted_each : (K : ℕ) (xs : List ℕ) → sorted_by f K xs ≡ each (λ x. having f x xs) (below K)
  sorted_each zero xs = unfold each below in refl
  sorted_each (suc K) xs = ap (λ l. l ++ having f K xs) (sorted_each K xs) ∙ sym (each_snoc (λ x. having f x xs) K)

-- the lists made of all pairs
each_pairs : {B : Type 0} (h : Step → List B) (P : ℕ) → each h (pairs P) ≡ each (λ x. each (λ y. h (step x y)) (below P)) (below P)
unfolding pairs
each_pairs h P = each_each h (λ x. map (λ y. step x y) (below P)) (below P) ∙ each_same (λ x. each h (map (λ y. step x y) (below P))) (λ x. each (λ y. h (step x y)) (below P)) (λ x. each_map h (λ y. step x y) (below P)) (below P)

-- the sort of the entries by both keys lists, for each different edge in order, the entries under it
module _ (d : Bool) (P : ℕ) (fs : List Face) (f g : ℕ → ℕ)
    (firsts : (id : ℕ) → id < 3 * length fs → f id ≡ (under d (step_at fs id)).from)
    (seconds : (id : ℕ) → id < 3 * length fs → g id ≡ (under d (step_at fs id)).to) where
  -- the entries with the keys x and y are those under the edge from x to y
  group_is : (x y : ℕ) → having g y (having f x (up_to (3 * length fs))) ≡ ids_of d fs (step x y)
  unfolding ids_of same
  group_is x y =
      filter_both (λ id. eqb (f id) x) (λ id. eqb (g id) y) (up_to (3 * length fs))
      ∙ rw (up_to_below (3 * length fs))
      (filter_agree (λ id. eqb (f id) x && eqb (g id) y) (λ id. same (step x y) (under d (step_at fs id))) (below (3 * length fs))
      (all_imp (λ id. id < 3 * length fs) (λ id. (eqb (f id) x && eqb (g id) y) ≡ same (step x y) (under d (step_at fs id)))
      (λ id h. rw (firsts id h, seconds id h, eqb_turn (under d (step_at fs id)).from x, eqb_turn (under d (step_at fs id)).to y))
      (below (3 * length fs)) (below_all (3 * length fs))))

  -- a pair that no entry is under has none
  none_under : (e : Step) → any (λ n. same e (under d n.along)) (entries fs) ≡ false → ids_of d fs e ≡ []
  unfolding ids_of
  none_under e h = none_filter (λ id. same e (under d (step_at fs id))) (below (3 * length fs)) (sym (any_ids (λ s. same e (under d s)) fs) ∙ h)

  -- the sort of all entries by both keys
  pub order_is : sorted_by_all (f ∷ g ∷ []) P (up_to (3 * length fs)) ≡ each (ids_of d fs) (keys_of d P fs)
  unfolding keys_of
  order_is =
      sorted_each f P (sorted_by g P ids)
      ∙ each_same (λ x. having f x (sorted_by g P ids)) (λ x. each (λ y. ids_of d fs (step x y)) (below P))
      (λ x. filter_sorted (λ id. eqb (f id) x) g P ids ∙ sorted_each g P (having f x ids) ∙ each_same (λ y. having g y (having f x ids)) (λ y. ids_of d fs (step x y)) (group_is x) (below P)) (below P)
      ∙ sym (each_pairs (ids_of d fs) P)
      ∙ sym (each_filter (ids_of d fs) (λ e. any (λ n. same e (under d n.along)) (entries fs)) none_under (pairs P))
    where
      ids : List ℕ
      ids = up_to (3 * length fs)
