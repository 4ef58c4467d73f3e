-- The edge check's second test by a number: every directed edge is used at most once exactly when there are as many directed edges as steps of faces.
-- Assumes nothing.
use mathlib.Core.Path.{◌≡◌, refl, sym, ap, subst, ◌∙◌}
use mathlib.Core.Logic.{◌⊎◌, inl, inr}
use mathlib.Core.Bool.{Bool, true, not, ◌&&◌}
use mathlib.Core.List.{List, [], ◌∷◌, ◌++◌, map, map-map, Memᴰ}
use Prim.Native.Nat.{ℕ, ◌*◌, ◌/◌, ◌≤◌, ◌<◌, zero-le}
use native.Mathlib.Omega.{arith}
use native.Mathlib.Decide.{dec_lt}
use borrow.Author.Tests.{eq-eqb}
use lib.Dec.{T, eqb, leb, eqb→eq, leb→le, le→leb}
use lib.ListN.{length, get_or, length-map, length-append}
use Rattle.rows.specs.Retain.{up_to}
use Rattle.rows.proofs.FilterLaws as rows-laws
use Rattle.sorting.proofs.ByKeys as sorting-laws
use Rattle.rules.specs.Lists.{below, filter, count, all, each}
use Rattle.rules.specs.Mesh.{Face, corners}
use Rattle.rules.specs.Float.{repeats}
use Rattle.rules.specs.Steps.{Step, step, steps, same, entries, walkers, directed}
use Rattle.rules.specs.Pass5.{fans}
use Rattle.rules.specs.Edges.{sound}
use Rattle.rule_laws.proofs.Tests.{both_ways}
use Rattle.rule_laws.proofs.Lists.{length_each, length_below, each_same, map_each}
use Rattle.rule_laws.proofs.Rising.{All, all_at, all_imp, all_each, get_or_below}
use Rattle.rule_laws.proofs.Members.{in_all, all_in, all_elim, all_intro}
use Rattle.rule_laws.proofs.Counting.{count_map, some_count}
use Rattle.rule_laws.proofs.Takers.{later, entries_cons}
use Rattle.rule_laws.proofs.Once.{CornersBelow, Inside, Once, same_is, walked}
use Rattle.table.specs.Entries.{step_at, ids_of, keys_of}
use Rattle.table.proofs.Ids.{order_is, up_to_below, walkers_ids, directed_keys}
use Rattle.table.proofs.Rows.{keys_used}

-- ---- lists none of which is empty, one after the other

module _ {A B : Type 0} (h : A → List B) where
  -- they have at least one element each
  each_least : (es : List A) → All (λ e. 0 < length (h e)) es → length es ≤ length (each h es)
  unfolding each
  each_least [] a = zero-le
  each_least (e ∷ es) a = omega (arith, a.0, each_least es a.1, length-append (h e) (each h es))

  -- where none has more, as many elements as lists
  each_ones : (es : List A) → All (λ e. 0 < length (h e)) es → All (λ e. length (h e) ≤ 1) es → length (each h es) ≡ length es
  unfolding each
  each_ones [] a b = refl
  each_ones (e ∷ es) a b = omega (arith, a.0, b.0, each_ones es a.1 b.1, length-append (h e) (each h es))

  -- where there are as many elements as lists, none has more than one
  ones_each : (es : List A) → All (λ e. 0 < length (h e)) es → length (each h es) ≡ length es → All (λ e. length (h e) ≤ 1) es
  unfolding each
  ones_each [] a q = tt
  ones_each (e ∷ es) a q =
      let l = each_least es a.1 in
      let s = length-append (h e) (each h es) in
      (omega (arith, a.0), ones_each es a.1 (omega (arith, a.0)))

-- ---- the rules' test, by walkers

-- the entries' steps are the faces' steps
alongs : (fs : List Face) → map (λ n. n.along) (entries fs) ≡ each steps fs
unfolding later each
alongs [] = unfold entries below in refl
alongs (f ∷ fs) = ap (map (λ n. n.along)) (entries_cons f fs) ∙ ap (λ l. steps f ++ l) (map-map (λ n. n.along) later (entries fs) ∙ alongs fs)

-- a directed edge has as many walkers as steps along it
walkers_count : (fs : List Face) (d : Step) → length (walkers fs d) ≡ count (same d) (each steps fs)
unfolding walkers count
walkers_count fs d =
    length-map (filter (λ n. same d n.along) (entries fs)) (λ n. n.by)
    ∙ sym (count_map (same d) (λ n. n.along) (entries fs))
    ∙ ap (count (same d)) (alongs fs)

-- where every step passes the rules' test, each directed edge is walked at most once: one that no face steps along has no walker
pub once_of : (fs : List Face) → T (all (λ s. leb (count (same s) (each steps fs)) 1) (each steps fs)) → Once fs
once_of fs t d = rw (walkers_count fs d) (go (dec_lt 0 (count (same d) (each steps fs))))
  where
    go : Dec (0 < count (same d) (each steps fs)) → count (same d) (each steps fs) ≤ 1
    go (yes h) =
        let w = some_count (same d) (each steps fs) h in
        let p : Step → Bool = λ s. leb (count (same s) (each steps fs)) 1 in
        let u = all_in (λ s. T (p s)) w.0 (each steps fs) (all_elim p (each steps fs) t) w.1 in
        leb→le (count (same d) (each steps fs)) 1 (subst (λ s. T (p s)) (sym (same_is d w.0 w.2)) u)
    go (no h) = omega arith

-- and the other way
pub of_once : (fs : List Face) → Once fs → T (all (λ s. leb (count (same s) (each steps fs)) 1) (each steps fs))
of_once fs o =
    all_intro (λ s. leb (count (same s) (each steps fs)) 1) (each steps fs)
    (in_all (λ s. T (leb (count (same s) (each steps fs)) 1)) (each steps fs)
    (λ s m. le→leb (count (same s) (each steps fs)) 1 (omega (arith, walkers_count fs s, o s))))

-- ---- the walkers of all directed edges are all the entries

module _ (P : ℕ) (fs : List Face) (inside : Inside P fs) where
  -- the ends of the faces' steps are points
  steps_inside : All (λ s. (s.from < P) × (s.to < P)) (each steps fs)
  steps_inside =
      all_each (λ s. (s.from < P) × (s.to < P)) steps fs
      (all_imp (CornersBelow P) (λ f. All (λ s. (s.from < P) × (s.to < P)) (steps f)) (λ f h. ((h.0, h.1), ((h.1, h.2), ((h.2, h.0), tt)))) fs inside)

  -- the numbers of all entries
  abbrev ids : List ℕ
  ids = up_to (3 * length fs)

  -- as many as steps
  length_ids : length ids ≡ 3 * length fs
  length_ids = ap length (up_to_below (3 * length fs)) ∙ length_below (3 * length fs)

  -- the keys of an entry: both ends of its step
  abbrev keys : List (ℕ → ℕ)
  keys = (λ id. (step_at fs id).from) ∷ (λ id. (step_at fs id).to) ∷ []

  -- they are points
  keys_inside : rows-laws.All (sorting-laws.Below keys P) ids
  unfolding step_at
  keys_inside =
      rows-laws.all_of (sorting-laws.Below keys P) ids
      (λ i l.
      let k : i < 3 * length fs = omega (arith, length_ids) in
      let e : get_or ids i 0 ≡ i = ap (λ l. get_or l i 0) (up_to_below (3 * length fs)) ∙ get_or_below (3 * length fs) i k in
      let h = all_at (λ s. (s.from < P) × (s.to < P)) (each steps fs) (step 0 0) i steps_inside (omega (arith, length_each 3 steps (λ f. refl) fs)) in
      rw e (h.0, (h.1, tt)))

  -- the sort of the entries by both keys has every entry
  order_long : length (each (ids_of true fs) (keys_of true P fs)) ≡ 3 * length fs
  order_long =
      ap length (sym (order_is true P fs (λ id. (step_at fs id).from) (λ id. (step_at fs id).to) (λ id h. refl) (λ id h. refl)))
      ∙ sorting-laws.sorted_long keys P ids keys_inside
      ∙ length_ids

  -- so the walkers of all directed edges together are as many as the steps
  walkers_long : length (each (walkers fs) (directed P fs)) ≡ 3 * length fs
  walkers_long =
      ap length (each_same (walkers fs) (λ d. map (λ id. id / 3) (ids_of true fs d)) (walkers_ids fs) (directed P fs) ∙ sym (map_each (λ id. id / 3) (ids_of true fs) (directed P fs)))
      ∙ length-map (each (ids_of true fs) (directed P fs)) (λ id. id / 3)
      ∙ ap (λ es. length (each (ids_of true fs) es)) (sym (directed_keys P fs))
      ∙ order_long

  -- no directed edge is without walkers
  all_walked : All (λ d. 0 < length (walkers fs d)) (directed P fs)
  all_walked =
      rw (← directed_keys P fs)
      (all_imp (λ d. 0 < length (ids_of true fs d)) (λ d. 0 < length (walkers fs d))
      (λ d h. rw (walkers_ids fs d, length-map (ids_of true fs d) (λ id. id / 3)) h) (keys_of true P fs) (keys_used true P fs))

  -- where each is walked at most once, there are as many directed edges as steps
  pub once_edges : Once fs → length (directed P fs) ≡ 3 * length fs
  once_edges o =
      sym (each_ones (walkers fs) (directed P fs) all_walked (in_all (λ d. length (walkers fs d) ≤ 1) (directed P fs) (λ d m. o d)))
      ∙ walkers_long

  -- where there are as many, each is walked at most once
  pub edges_once : length (directed P fs) ≡ 3 * length fs → Once fs
  edges_once e d = go (walked P fs inside d)
    where
      go : (walkers fs d ≡ []) ⊎ Memᴰ d (directed P fs) → length (walkers fs d) ≤ 1
      go (inl z) = rw z zero-le
      go (inr m) = all_in (λ s. length (walkers fs s) ≤ 1) d (directed P fs) (ones_each (walkers fs) (directed P fs) all_walked (walkers_long ∙ sym e)) m

  -- the rules' test of the steps, by that number
  pub once_is : all (λ s. leb (count (same s) (each steps fs)) 1) (each steps fs) ≡ eqb (length (directed P fs)) (3 * length fs)
  once_is =
      both_ways (all (λ s. leb (count (same s) (each steps fs)) 1) (each steps fs)) (eqb (length (directed P fs)) (3 * length fs))
      (λ t. rw (eq-eqb (length (directed P fs)) (3 * length fs) (once_edges (once_of fs t))) tt)
      (λ t. of_once fs (edges_once (eqb→eq (length (directed P fs)) (3 * length fs) t)))

  -- the edge check's yes
  pub sound_is :
      sound fs
      ≡ (all (λ f. not (repeats f)) fs && eqb (length (directed P fs)) (3 * length fs) && all (λ v. eqb (length (fans fs v)) 1) (each corners fs))
  unfolding sound
  sound_is = ap (λ b. all (λ f. not (repeats f)) fs && b && all (λ v. eqb (length (fans fs v)) 1) (each corners fs)) once_is
