-- After the second half of pass 4 each directed edge is walked at most once. Assumes nothing.
use mathlib.Core.Path.{◌≡◌, refl, ap, subst}
use mathlib.Core.Logic.{◌⊎◌, inl, inr}
use mathlib.Core.Bool.{Bool, true, false, not, cond}
use mathlib.Core.List.Memᴰ
use mathlib.Core.List.{List, [], ◌∷◌, map, Memᴰ}
use Prim.Native.Nat.{ℕ, suc, ◌≤◌, ◌<◌, zero-le, suc-le-suc}
use native.Mathlib.Omega.{arith}
use native.Mathlib.Nat.{le_refl}
use lib.ListN.{length}
use lib.Dec.{T, eqb, eqb→eq, T_not}
use Rattle.rules.specs.Lists.{below, filter, count, any, each, leave, has}
use Rattle.rules.specs.Mesh.{Point, Face, face}
use Rattle.rules.specs.Steps.{Step, step, steps, same, Entry, entries, walkers, pairs, directed, quality_of}
use Rattle.rules.specs.Rank.{best, without}
use Rattle.rules.specs.Pass4.{marked4}
use Rattle.rule_laws.proofs.Tests.{and_elim}
use Rattle.rule_laws.proofs.Rising.{All, all_append, all_map, all_at}
use Rattle.rule_laws.proofs.Members.{any_elim, any_intro, mem_below, mem_each, mem_filter, mem_has, none_filter}
use Rattle.rule_laws.proofs.Counting.{count_zero}
use Rattle.rule_laws.proofs.Takers.{walkers_takers, takers_leave, later, entries_cons}

-- two numbers below P are among the pairs
pub mem_pairs : (P x y : ℕ) → x < P → y < P → Memᴰ (step x y) (pairs P)
unfolding pairs
mem_pairs P x y hx hy =
    mem_each (λ u. map (λ v. step u v) (below P)) x (step x y) (below P) (mem_below x P hx) (Memᴰ.map (λ v. step x v) (mem_below y P hy))

-- without one element, at most one that passes is missing
pub count_without : (p : ℕ → Bool) (b : ℕ) (xs : List ℕ) → count p xs ≤ suc (count p (without b xs))
unfolding count filter without
count_without p b [] = zero-le
count_without p b (x ∷ xs) = go (eqb b x) (count_without p b xs)
  where
    here : (q : Bool) → length (cond q (x ∷ filter p xs) (filter p xs)) ≤ suc (length (filter p xs))
    here true = le_refl _
    here false = omega arith

    there : (q : Bool) → length (filter p xs) ≤ suc (length (filter p (without b xs)))
        → length (cond q (x ∷ filter p xs) (filter p xs)) ≤ suc (length (cond q (x ∷ filter p (without b xs)) (filter p (without b xs))))
    there true h = suc-le-suc h
    there false h = h

    go : (e : Bool) → length (filter p xs) ≤ suc (length (filter p (without b xs)))
        → length (cond (p x) (x ∷ filter p xs) (filter p xs)) ≤ suc (length (filter p (cond e xs (x ∷ without b xs))))
    go true h = here (p x)
    go false h = there (p x) h

-- ---- the faces' corners are points

-- a face's corners are below P
abbrev pub CornersBelow : ℕ → Face → Type 0
CornersBelow P f = (f.a < P) × (f.b < P) × (f.c < P)

-- all corners of the faces are points
abbrev pub Inside : ℕ → List Face → Type 0
Inside P fs = All (CornersBelow P) fs

-- so are those of the face at a place
pub face_inside : (P : ℕ) (fs : List Face) → Inside P fs → (i : ℕ) → i < length fs → CornersBelow P (face fs i)
unfolding face
face_inside P fs h i l = all_at (CornersBelow P) fs (record { a = 0; b = 0; c = 0; origin = 0 }) i h l

-- the ends of an entry's step are below P
abbrev Between : ℕ → Entry → Type 0
Between P n = (n.along.from < P) × (n.along.to < P)

-- they are, where the faces' corners are
pub entries_inside : (P : ℕ) (fs : List Face) → Inside P fs → All (Between P) (entries fs)
unfolding later entries each below
entries_inside P [] h = tt
entries_inside P (f ∷ fs) h =
    rw (entries_cons f fs)
    (all_append (Between P) (map (λ s. record { by = 0; along = s }) (steps f)) (map later (entries fs))
    ((h.0.0, h.0.1), ((h.0.1, h.0.2), ((h.0.2, h.0.0), tt)))
    (all_map (Between P) later (entries fs) (entries_inside P fs h.1)))

-- ---- a directed edge that is walked is among the directed edges

-- steps that are the same have the same ends
pub same_eq : (s t : Step) → T (same s t) → (s.from ≡ t.from) × (s.to ≡ t.to)
unfolding same
same_eq s t h =
    let b = and_elim (eqb s.from t.from) (eqb s.to t.to) h in
    (eqb→eq s.from t.from b.0, eqb→eq s.to t.to b.1)

-- so they are one step
pub same_is : (s t : Step) → T (same s t) → s ≡ t
same_is s t h = let q = same_eq s t h in (λ i. step (q.0 i) (q.1 i))

-- a directed edge has no walkers, or it is among the directed edges
pub walked : (P : ℕ) (fs : List Face) → Inside P fs → (d : Step) → (walkers fs d ≡ []) ⊎ Memᴰ d (directed P fs)
unfolding walkers directed
walked P fs h d = go (any (λ n. same d n.along) (entries fs)) refl
  where
    go : (b : Bool) → any (λ n. same d n.along) (entries fs) ≡ b → (walkers fs d ≡ []) ⊎ Memᴰ d (directed P fs)
    go false e = inl (ap (λ l. map (λ n. n.by) l) (none_filter (λ n. same d n.along) (entries fs) e))
    go true e =
        let t : T (any (λ n. same d n.along) (entries fs)) = rw e tt in
        let w = any_elim (λ n. same d n.along) (Between P) (entries fs) (entries_inside P fs h) t in
        let q = same_eq d w.0.along w.2 in
        inr (mem_filter (λ c. any (λ n. same c n.along) (entries fs)) d (pairs P)
        (mem_pairs P d.from d.to (rw q.0 w.1.0) (rw q.1 w.1.1)) t)

-- ---- the second half of pass 4

-- each directed edge is walked at most once
abbrev pub Once : List Face → Type 0
Once fs = (d : Step) → length (walkers fs d) ≤ 1

module _ (ps : List Point) (fs : List Face) where
  -- the entries of a directed edge after the first in rank
  after_best : Step → List ℕ
  after_best d = without (best (quality_of ps fs) (walkers fs d)) (walkers fs d)

  -- all entries after the first of a directed edge are marked
  after_marked : (d : Step) → Memᴰ d (directed (length ps) fs) → (i : ℕ) → Memᴰ i (after_best d) → T (marked4 ps fs i)
  unfolding marked4 after_best
  after_marked d m i k = any_intro (λ e. has i (after_best e)) d (directed (length ps) fs) m (mem_has i (after_best d) k)

  -- so at most one entry is unmarked
  few_unmarked : (d : Step) → Memᴰ d (directed (length ps) fs) → count (λ i. not (marked4 ps fs i)) (walkers fs d) ≤ 1
  unfolding after_best
  few_unmarked d m =
      subst (λ n. count (λ i. not (marked4 ps fs i)) (walkers fs d) ≤ suc n)
      (count_zero (λ i. not (marked4 ps fs i)) (after_best d) (λ i k t. T_not (marked4 ps fs i) t (after_marked d m i k)))
      (count_without (λ i. not (marked4 ps fs i)) (best (quality_of ps fs) (walkers fs d)) (walkers fs d))

  -- so when the marked faces have left, each directed edge is walked at most once
  pub once_after : Inside (length ps) fs → Once (leave (marked4 ps fs) fs)
  once_after h d =
      rw (walkers_takers (leave (marked4 ps fs) fs) d, takers_leave (marked4 ps fs) (same d) fs, ← walkers_takers fs d)
      (go (walked (length ps) fs h d))
    where
      go : (walkers fs d ≡ []) ⊎ Memᴰ d (directed (length ps) fs) → count (λ i. not (marked4 ps fs i)) (walkers fs d) ≤ 1
      go (inl e) = rw e (unfold count filter in zero-le)
      go (inr m) = few_unmarked d m
