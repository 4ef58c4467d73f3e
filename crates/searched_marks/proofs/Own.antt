-- A face is marked by its own edges and steps: it is among the entries of no others. Assumes nothing.
use mathlib.Core.Path.{◌≡◌, refl, sym, ap, ap₂, subst, ◌∙◌}
use mathlib.Core.Logic.{◌⊎◌, inl, inr}
use mathlib.Core.Bool.{Bool, true, false, not, ◌&&◌, ◌||◌, cond}
use mathlib.Core.List.{List, [], ◌∷◌, map, Memᴰ}
use Prim.Native.Nat.{ℕ, ◌<◌}
use native.Mathlib.Omega.{arith}
use lib.Dec.{T, eqb, ltb}
use lib.Ieee.Bits.{is_true}
use lib.ListN.{length}
use Rattle.rules.specs.Lists.{below, filter, any, has}
use Rattle.rules.specs.Mesh.{Point, Face, face}
use Rattle.rules.specs.Steps.{Step, step, steps, edge, same, entries, users, walkers, pairs, edges, directed, quality_of}
use Rattle.rules.specs.Rank.{best, without}
use Rattle.rules.specs.Pass3.{crowded, kept, marked3}
use Rattle.rules.specs.Pass4.{marked4}
use Rattle.rule_laws.proofs.Tests.{both_ways, and_elim}
use Rattle.rule_laws.proofs.Rising.{All, all_imp}
use Rattle.rule_laws.proofs.Members.{all_members, mem_each, mem_each_of, mem_below, mem_filter, mem_left, any_intro, any_mem, mem_has, has_mem, mem_three}
use Rattle.rule_laws.proofs.Once.{Inside, CornersBelow, face_inside, mem_pairs, same_is}
use Rattle.rule_laws.proofs.Takers.{takers, users_takers, walkers_takers}
use Rattle.face_words.proofs.Places.{takers_each, any_filter}
use Rattle.entry_search.proofs.Entries.{same_self}

-- a changed member is a member of the changed list
pub mem_map : {A B : Type 0} (f : A → B) (x : A) (xs : List A) → Memᴰ x xs → Memᴰ (f x) (map f xs)
mem_map f x (y ∷ xs) (Memᴰ.head e) = Memᴰ.head (ap f e)
mem_map f x (y ∷ xs) (Memᴰ.tail m) = Memᴰ.tail (mem_map f x xs m)
mem_map {A = A} {B = B} f x [] x'' = elim x'' [ ]

-- a member of a list of equal ones
pub mem_same : {A : Type 0} (i x : ℕ) (ss : List A) → Memᴰ i (map (λ s. x) ss) → (i ≡ x) × (s : A) × Memᴰ s ss
mem_same i x (s ∷ ss) (Memᴰ.head e) = (e, s, Memᴰ.head refl)
mem_same i x (s ∷ ss) (Memᴰ.tail m) = let r = mem_same i x ss m in (r.0, r.1, Memᴰ.tail r.2)
mem_same {A = A} i x [] x'' = elim x'' [ ]

-- tests that agree on the members
any_agree : {A : Type 0} (p q : A → Bool) (xs : List A) → All (λ x. p x ≡ q x) xs → any p xs ≡ any q xs
unfolding any
any_agree p q [] a = refl
any_agree p q (x ∷ xs) a = ap₂ (λ y z. y || z) a.0 (any_agree p q xs a.1)

-- ---- who takes a step

module _ (fs : List Face) (i : ℕ) where
  -- a face that takes steps under p has one
  taker_step : (p : Step → Bool) → Memᴰ i (takers p fs) → (s : Step) × Memᴰ s (steps (face fs i)) × T (p s)
  taker_step p m =
      let r = mem_each_of (λ j. map (λ s. j) (filter p (steps (face fs j)))) i (below (length fs)) (subst (Memᴰ i) (takers_each p fs) m) in
      let q = mem_same i r.0 (filter p (steps (face fs r.0))) r.2 in
      let k = mem_left p q.1 (steps (face fs r.0)) q.2 in
      (q.1, subst (λ j. Memᴰ q.1 (steps (face fs j))) (sym q.0) k.0, k.1)

  -- a face with a step under p takes it
  step_taker : (p : Step → Bool) (s : Step) → i < length fs → Memᴰ s (steps (face fs i)) → T (p s) → Memᴰ i (takers p fs)
  step_taker p s h m t =
      subst (Memᴰ i) (sym (takers_each p fs))
      (mem_each (λ j. map (λ x. j) (filter p (steps (face fs j)))) i i (below (length fs)) (mem_below i (length fs) h)
      (mem_map (λ x. i) s (filter p (steps (face fs i))) (mem_filter p s (steps (face fs i)) m t)))

  -- its step is an entry
  step_entry : (s : Step) → i < length fs → Memᴰ s (steps (face fs i)) → Memᴰ (record { by = i; along = s }) (entries fs)
  unfolding entries
  step_entry s h m =
      mem_each (λ j. map (λ x. record { by = j; along = x }) (steps (face fs j))) i (record { by = i; along = s }) (below (length fs)) (mem_below i (length fs) h)
      (mem_map (λ x. record { by = i; along = x }) s (steps (face fs i)) m)

-- ---- a test of all keys is one of a face's own

-- what a step is put under: itself or its edge
module _ (key : Step → Step) (P : ℕ) (fs : List Face) (i : ℕ) (h : i < length fs)
    (low : (s : Step) → Memᴰ s (steps (face fs i)) → ((key s).from < P) × ((key s).to < P))
    (lost : Step → Bool) (only : (e : Step) → T (lost e) → Memᴰ i (takers (λ s. same e (key s)) fs)) where
  own_keys : any lost (filter (λ e. any (λ n. same e (key n.along)) (entries fs)) (pairs P)) ≡ any (λ s. lost (key s)) (steps (face fs i))
  own_keys =
      both_ways (any lost keys) (any (λ s. lost (key s)) (steps (face fs i)))
      (λ t.
      let r = any_mem lost keys t in
      let q = taker_step fs i (λ s. same r.0 (key s)) (only r.0 r.2) in
      any_intro (λ s. lost (key s)) q.0 (steps (face fs i)) q.1 (subst (λ e. T (lost e)) (same_is r.0 (key q.0) q.2) r.2))
      (λ t.
      let r = any_mem (λ s. lost (key s)) (steps (face fs i)) t in
      let b = low r.0 r.1 in
      any_intro lost (key r.0) keys
      (mem_filter (λ e. any (λ n. same e (key n.along)) (entries fs)) (key r.0) (pairs P)
      (mem_pairs P (key r.0).from (key r.0).to b.0 b.1)
      (any_intro (λ n. same (key r.0) (key n.along)) (record { by = i; along = r.0 }) (entries fs) (step_entry fs i r.0 h r.1) (same_self (key r.0))))
      r.2)
    where
      keys : List Step
      keys = filter (λ e. any (λ n. same e (key n.along)) (entries fs)) (pairs P)

-- the ends of a face's steps are points
steps_low : (P : ℕ) (v : Face) → CornersBelow P v → (s : Step) → Memᴰ s (steps v) → (s.from < P) × (s.to < P)
steps_low P v b s m = go (mem_three m)
  where
    go : (s ≡ step v.a v.b) ⊎ ((s ≡ step v.b v.c) ⊎ (s ≡ step v.c v.a)) → (s.from < P) × (s.to < P)
    go (inl e) = rw e (b.0, b.1)
    go (inr (inl e)) = rw e (b.1, b.2)
    go (inr (inr e)) = rw e (b.2, b.0)

-- and those of its edges
edge_low : (P : ℕ) (s : Step) → (s.from < P) × (s.to < P) → ((edge s).from < P) × ((edge s).to < P)
unfolding edge
edge_low P s b = (omega (arith, b.0, b.1), omega (arith, b.0, b.1))

-- ---- pass 3

-- face i is lost at the edge e: it is crowded and keeps others
abbrev pub lost3 : List Point → List Face → ℕ → Step → Bool
lost3 ps fs i e = ltb 2 (length (users fs e)) && not (kept (quality_of ps fs) fs e (users fs e) i)

-- a face is marked where it is lost at one of its own edges
pub marked3_own : (ps : List Point) (fs : List Face) (i : ℕ) → Inside (length ps) fs → i < length fs → marked3 ps fs i ≡ any (λ s. lost3 ps fs i (edge s)) (steps (face fs i))
unfolding marked3 crowded edges
marked3_own ps fs i inside h =
    any_filter (λ e. ltb 2 (length (users fs e))) (λ e. has i (users fs e) && not (keeps e)) (edges (length ps) fs)
    ∙ own_keys edge (length ps) fs i h (λ s m. edge_low (length ps) s (steps_low (length ps) (face fs i) (face_inside (length ps) fs inside i h) s m))
    (λ e. ltb 2 (length (users fs e)) && (has i (users fs e) && not (keeps e)))
    (λ e t.
    subst (Memᴰ i) (users_takers fs e)
    (has_mem i (users fs e) (and_elim (has i (users fs e)) (not (keeps e)) (and_elim (ltb 2 (length (users fs e))) (has i (users fs e) && not (keeps e)) t).1).0))
    ∙ any_agree (λ s. ltb 2 (length (users fs (edge s))) && (has i (users fs (edge s)) && not (keeps (edge s)))) (λ s. lost3 ps fs i (edge s)) (steps (face fs i))
    (all_imp (λ s. Memᴰ s (steps (face fs i))) (λ s. (ltb 2 (length (users fs (edge s))) && (has i (users fs (edge s)) && not (keeps (edge s)))) ≡ lost3 ps fs i (edge s))
    (λ s m. ap (λ b. ltb 2 (length (users fs (edge s))) && (b && not (keeps (edge s)))) (is_true (has i (users fs (edge s))) (mem_has i (users fs (edge s)) (user s m))))
    (steps (face fs i)) (all_members (steps (face fs i))))
  where
    keeps : Step → Bool
    keeps e = kept (quality_of ps fs) fs e (users fs e) i

    user : (s : Step) → Memᴰ s (steps (face fs i)) → Memᴰ i (users fs (edge s))
    user s m = subst (Memᴰ i) (sym (users_takers fs (edge s))) (step_taker fs i (λ t. same (edge s) (edge t)) s h m (same_self (edge s)))

-- ---- pass 4

-- face i is lost at the step d: it is among its walkers after the first
abbrev pub lost4 : List Point → List Face → ℕ → Step → Bool
lost4 ps fs i d = has i (without (best (quality_of ps fs) (walkers fs d)) (walkers fs d))

-- who is left was there
without_mem : (i b : ℕ) (ws : List ℕ) → Memᴰ i (without b ws) → Memᴰ i ws
unfolding without
without_mem i b (j ∷ ws) m = go (eqb b j) m (λ q. without_mem i b ws q)
  where
    go : (c : Bool) → Memᴰ i (cond c ws (j ∷ without b ws)) → (Memᴰ i (without b ws) → Memᴰ i ws) → Memᴰ i (j ∷ ws)
    go true q r = Memᴰ.tail q
    go false (Memᴰ.head e) r = Memᴰ.head e
    go false (Memᴰ.tail q) r = Memᴰ.tail (r q)
without_mem i b [] m = elim m [ ]

-- a face is marked where it is lost at one of its own steps
pub marked4_own : (ps : List Point) (fs : List Face) (i : ℕ) → Inside (length ps) fs → i < length fs → marked4 ps fs i ≡ any (lost4 ps fs i) (steps (face fs i))
unfolding marked4 directed
marked4_own ps fs i inside h =
    own_keys (λ s. s) (length ps) fs i h (λ s m. steps_low (length ps) (face fs i) (face_inside (length ps) fs inside i h) s m)
    (lost4 ps fs i)
    (λ e t.
    subst (Memᴰ i) (walkers_takers fs e)
    (without_mem i (best (quality_of ps fs) (walkers fs e)) (walkers fs e) (has_mem i (without (best (quality_of ps fs) (walkers fs e)) (walkers fs e)) t)))
