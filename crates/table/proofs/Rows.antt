-- The different edges rise, so no two are the same. Assumes nothing.
use mathlib.Core.Path.{◌≡◌, refl, sym, ap, subst}
use mathlib.Core.Bool.{Bool, true, false, cond}
use mathlib.Core.List.{List, [], ◌∷◌, ◌++◌, map, map-append}
use Prim.Native.Nat.{ℕ, zero, suc, ◌*◌, ◌%◌, ◌<◌}
use native.Mathlib.Omega.{arith}
use native.Mathlib.Nat.{not-suc-le-zero, le_of_suc-le-suc}
use borrow.Author.Tests.{eq-eqb}
use lib.Dec.{T}
use lib.ListN.{length, get_or}
use Rattle.rules.specs.Lists.{below, filter, any, each}
use Rattle.rules.specs.Mesh.{Face, faces_of}
use Rattle.rules.specs.Steps.{Step, step, edge, same, entries, pairs}
use Rattle.rule_laws.proofs.Rising.{All, all_at, all_append, all_imp, all_filter, below_all, all_map}
use Rattle.rule_laws.proofs.Members.{in_all, any_mem, mem_filter, some_length}
use Rattle.rule_laws.proofs.Once.{same_is}
use Rattle.table.specs.Entries.{next, step_at, under, ids_of, keys_of}
use Rattle.table.proofs.Ids.{each_snoc, any_ids, step_flat, next_in}

-- a step is the same as itself
pub same_self : (s : Step) → same s s ≡ true
unfolding same
same_self s = rw (eq-eqb s.from s.from refl, eq-eqb s.to s.to refl)

-- ---- rising lists of steps

-- s comes before t, by where they begin and then by where they end
pub data Less (s t : Step) : Type 0 where
  sooner : s.from < t.from → Less s t
  level : s.from ≡ t.from → s.to < t.to → Less s t

-- then they are not the same
pub less_not : {s t : Step} → Less s t → s ≡ t → ⊥
less_not {s} {t} (sooner l) e = omega (arith, ap (λ u. u.from) e)
less_not {s} {t} (level p l) e = omega (arith, ap (λ u. u.to) e)

-- by the rules' test
pub less_same : {s t : Step} → Less s t → same t s ≡ false
less_same {s} {t} l = go (same t s) refl
  where
    go : (b : Bool) → same t s ≡ b → same t s ≡ false
    go true e = absurd (less_not l (sym (same_is t s (subst T (sym e) tt))))
    go false e = e

-- each comes before all later ones
abbrev pub Rise : List Step → Type 0
Rise [] = Unit {0}
Rise (x ∷ xs) = All (Less x) xs × Rise xs

-- two rising lists, one before the other
rise_append : (xs ys : List Step) → Rise xs → Rise ys → All (λ x. All (Less x) ys) xs → Rise (xs ++ ys)
rise_append [] ys a b c = b
rise_append (x ∷ xs) ys a b c = (all_append (Less x) xs ys a.0 c.0, rise_append xs ys a.1 b c.1)

-- what is left of a rising list rises
rise_filter : (p : Step → Bool) (xs : List Step) → Rise xs → Rise (filter p xs)
unfolding filter
rise_filter p [] a = tt
rise_filter p (x ∷ xs) a = go (p x) (rise_filter p xs a.1)
  where
    go : (b : Bool) → Rise (filter p xs) → Rise (cond b (x ∷ filter p xs) (filter p xs))
    go true r = (all_imp (λ y. Less x y × T (p y)) (Less x) (λ y h. h.0) (filter p xs) (all_filter (Less x) p xs a.0), r)
    go false r = r

-- the pairs with one first end
row : ℕ → ℕ → List Step
row x M = map (λ y. step x y) (below M)

-- what they have
row_all : (x M : ℕ) → All (λ s. (s.from ≡ x) × (s.to < M)) (row x M)
unfolding row
row_all x M = all_map (λ s. (s.from ≡ x) × (s.to < M)) (λ y. step x y) (below M) (all_imp (λ y. y < M) (λ y. (x ≡ x) × (y < M)) (λ y l. (refl, l)) (below M) (below_all M))

-- they rise
row_rise : (x M : ℕ) → Rise (row x M)
unfolding row below
row_rise x zero = tt
row_rise x (suc M) =
    rw (map-append (λ y. step x y) (below M) (M ∷ []))
    (rise_append (row x M) (step x M ∷ []) (row_rise x M) (tt, tt)
    (all_imp (λ s. (s.from ≡ x) × (s.to < M)) (λ s. All (Less s) (step x M ∷ [])) (λ s l. (level l.0 l.1, tt)) (row x M) (row_all x M)))

-- the pairs whose first end is below K rise
rows_rise : (P K : ℕ) → Rise (each (λ x. row x P) (below K)) × All (λ s. s.from < K) (each (λ x. row x P) (below K))
rows_rise P zero = unfold each below in (tt, tt)
rows_rise P (suc K) =
    let r = rows_rise P K in
    rw (each_snoc (λ x. row x P) K) (
      rise_append (each (λ x. row x P) (below K)) (row K P) r.0 (row_rise K P)
          (all_imp (λ s. s.from < K) (λ s. All (Less s) (row K P)) (λ s l. all_imp (λ t. (t.from ≡ K) × (t.to < P)) (Less s) (λ t q. sooner (omega (arith, q.0))) (row K P) (row_all K P)) (each (λ x. row x P) (below K)) r.1),
      all_append (λ s. s.from < suc K) (each (λ x. row x P) (below K)) (row K P)
          (all_imp (λ s. s.from < K) (λ s. s.from < suc K) (λ s l. omega arith) (each (λ x. row x P) (below K)) r.1)
          (all_imp (λ s. (s.from ≡ K) × (s.to < P)) (λ s. s.from < suc K) (λ s q. omega (arith, q.0)) (row K P) (row_all K P)),
    )

-- all pairs rise
pairs_rise : (P : ℕ) → Rise (pairs P)
unfolding pairs row
pairs_rise P = (rows_rise P P).0

-- so the different edges rise, and no two are the same
pub keys_rise : (d : Bool) (P : ℕ) (fs : List Face) → Rise (keys_of d P fs)
unfolding keys_of
keys_rise d P fs = rise_filter (λ e. any (λ n. same e (under d n.along)) (entries fs)) (pairs P) (pairs_rise P)

-- of two places the earlier has what comes before
pub rise_at : (z : Step) (xs : List Step) → Rise xs → (r s : ℕ) → r < s → s < length xs → Less (get_or xs r z) (get_or xs s z)
rise_at z [] a r s l h = absurd (not-suc-le-zero h)
rise_at z (x ∷ xs) a r zero l h = absurd (not-suc-le-zero l)
rise_at z (x ∷ xs) a zero (suc s) l h = all_at (Less x) xs z s a.0 (le_of_suc-le-suc h)
rise_at z (x ∷ xs) a (suc r) (suc s) l h = rise_at z xs a.1 r s (le_of_suc-le-suc l) (le_of_suc-le-suc h)

-- ---- the runs of the sorted entries

-- the entries of a run are under its edge, and are entries
ids_kept : (d : Bool) (fs : List Face) (e : Step) → All (λ id. (id < 3 * length fs) × T (same e (under d (step_at fs id)))) (ids_of d fs e)
unfolding ids_of
ids_kept d fs e = all_filter (λ id. id < 3 * length fs) (λ id. same e (under d (step_at fs id))) (below (3 * length fs)) (below_all (3 * length fs))

-- the first of both
pub ids_under : (d : Bool) (fs : List Face) (e : Step) → All (λ id. under d (step_at fs id) ≡ e) (ids_of d fs e)
ids_under d fs e = all_imp (λ id. (id < 3 * length fs) × T (same e (under d (step_at fs id)))) (λ id. under d (step_at fs id) ≡ e) (λ id h. sym (same_is e (under d (step_at fs id)) h.1)) (ids_of d fs e) (ids_kept d fs e)

-- the second
pub ids_below : (d : Bool) (fs : List Face) (e : Step) → All (λ id. id < 3 * length fs) (ids_of d fs e)
ids_below d fs e = all_imp (λ id. (id < 3 * length fs) × T (same e (under d (step_at fs id)))) (λ id. id < 3 * length fs) (λ id h. h.0) (ids_of d fs e) (ids_kept d fs e)

-- of a list with one that passes a filter leaves some
some_left : {A : Type 0} (p : A → Bool) (xs : List A) → T (any p xs) → 0 < length (filter p xs)
some_left p xs t = let w = any_mem p xs t in some_length w.0 (filter p xs) (mem_filter p w.0 xs w.1 w.2)

-- no run is empty
pub keys_used : (d : Bool) (P : ℕ) (fs : List Face) → All (λ e. 0 < length (ids_of d fs e)) (keys_of d P fs)
unfolding ids_of keys_of
keys_used d P fs =
    all_imp (λ e. Unit {0} × T (any (λ n. same e (under d n.along)) (entries fs))) (λ e. 0 < length (ids_of d fs e))
    (λ e h. some_left (λ id. same e (under d (step_at fs id))) (below (3 * length fs)) (subst T (any_ids (λ s. same e (under d s)) fs) h.1))
    (keys_of d P fs) (all_filter (λ e. Unit {0}) (λ e. any (λ n. same e (under d n.along)) (entries fs)) (pairs P) (in_all (λ e. Unit {0}) (pairs P) (λ e m. tt)))

-- ---- the keys of an entry are points

-- the ends of a step between points, as it goes or by the lower end first
pub under_in : (P : ℕ) (d : Bool) (s : Step) → s.from < P → s.to < P → ((under d s).from < P) × ((under d s).to < P)
unfolding edge
under_in P true s p q = (p, q)
under_in P false s p q = (omega arith, omega arith)

-- so both keys of an entry are points
pub keys_in : (P : ℕ) (d : Bool) (xs : List ℕ) → length xs % 3 ≡ 0 → ((i : ℕ) → i < length xs → get_or xs i 0 < P) → (id : ℕ) → id < length xs → ((under d (step_at (faces_of xs) id)).from < P) × ((under d (step_at (faces_of xs) id)).to < P)
keys_in P d xs w a id h = rw (step_flat xs w id h) (under_in P d (step (get_or xs id 0) (get_or xs (next id) 0)) (a id h) (a (next id) (next_in (length xs) id w h)))
