-- The entries along a step or an edge, face by face: a face that has none of one corner has none. Assumes nothing.
use mathlib.Core.Path.{◌≡◌, refl, sym, ap, ap₂, subst, ◌∙◌}
use mathlib.Core.Logic.{◌⊎◌, inl, inr}
use mathlib.Core.Bool.{Bool, true, false, not, ◌&&◌, ◌||◌, cond}
use mathlib.Core.List.{List, [], ◌∷◌, ◌++◌, map, append-nil, Memᴰ}
use Prim.Native.Nat.{ℕ, suc, ◌+◌, ◌≤◌, ◌<◌, min, max}
use native.Mathlib.Omega.{arith}
use native.Mathlib.Decide.{dec_le, le_ind}
use borrow.Author.Tests.{eq-eqb}
use lib.Dec.{T, eqb}
use lib.Ieee.Fits.{and_i}
use lib.ListN.{length, length-append, length-map}
use Rattle.rules.specs.Lists.{below, filter, any, each, has}
use Rattle.rules.specs.Mesh.{Face, face, faces_of, corners, exchanged}
use Rattle.rules.specs.Steps.{Step, step, steps, opposite, edge, same}
use Rattle.rule_laws.proofs.Tests.{or_left, or_right, or_elim, both_ways, and_elim}
use Rattle.rule_laws.proofs.Lists.{each_append, under_cond}
use Rattle.rule_laws.proofs.Members.{mem_has, none_filter, any_mem, mem_three}
use Rattle.rule_laws.proofs.Once.{same_is}
use Rattle.orienting.proofs.Turns.{edge_opposite}
use Rattle.face_words.specs.Words.{stands, straight, view, there}
use Rattle.face_words.proofs.Places.{there_next}
use Rattle.entry_search.specs.Searching.{joins, along}

-- ---- the test

-- equal ends in either order
ends : (a b c d : ℕ) → min a b ≡ min c d → max a b ≡ max c d → ((a ≡ c) × (b ≡ d)) ⊎ ((a ≡ d) × (b ≡ c))
ends a b c d e f = go (dec_le a b) (dec_le c d)
  where
    go : Dec (a ≤ b) → Dec (c ≤ d) → ((a ≡ c) × (b ≡ d)) ⊎ ((a ≡ d) × (b ≡ c))
    go (yes x) (yes y) = inl (omega arith, omega arith)
    go (yes x) (no y) = inr (omega arith, omega arith)
    go (no x) (yes y) = inr (omega arith, omega arith)
    go (no x) (no y) = inl (omega arith, omega arith)

-- a step is the same as itself
pub same_self : (s : Step) → T (same s s)
unfolding same
same_self s = and_i (eqb s.from s.from) (eqb s.to s.to) (subst T (sym (eq-eqb s.from s.from refl)) tt) (subst T (sym (eq-eqb s.to s.to refl)) tt)

-- a step along the edge of s is s or the opposite one
pub same_edge : (s t : Step) → same (edge s) (edge t) ≡ (same s t || same (opposite s) t)
same_edge s t =
    both_ways (same (edge s) (edge t)) (same s t || same (opposite s) t)
    (λ h. let e = same_is (edge s) (edge t) h in either (unfold edge in ends s.from s.to t.from t.to (ap (λ x. x.from) e) (ap (λ x. x.to) e)))
    (λ h. back (or_elim (same s t) (same (opposite s) t) h))
  where
    either : ((s.from ≡ t.from) × (s.to ≡ t.to)) ⊎ ((s.from ≡ t.to) × (s.to ≡ t.from)) → T (same s t || same (opposite s) t)
    either (inl q) = or_left (same s t) (same (opposite s) t) (subst (λ x. T (same s x)) (ap₂ (λ x y. step x y) q.0 q.1) (same_self s))
    either (inr q) =
        let e : opposite s ≡ t = unfold opposite in ap₂ (λ x y. step x y) q.1 q.0 in
        or_right (same s t) (same (opposite s) t) (subst (λ x. T (same (opposite s) x)) e (same_self (opposite s)))

    back : T (same s t) ⊎ T (same (opposite s) t) → T (same (edge s) (edge t))
    back (inl q) = subst (λ x. T (same (edge s) (edge x))) (same_is s t q) (same_self (edge s))
    back (inr q) = subst (λ x. T (same (edge s) x)) (sym (edge_opposite s) ∙ ap edge (same_is (opposite s) t q)) (same_self (edge s))

-- in one direction, or in either
pub along_is : (d : Bool) (t s : Step) → along d t s ≡ (same t s || not d && same (opposite t) s)
unfolding along
along_is true t s = sym (no_more (same t s))
  where
    no_more : (b : Bool) → (b || false) ≡ b
    no_more true = refl
    no_more false = refl
along_is false t s = same_edge t s

-- a step that is along t has its ends
along_ends : (d : Bool) (t s : Step) → T (along d t s) → (s ≡ t) ⊎ (s ≡ opposite t)
along_ends d t s h = go (or_elim (same t s) (not d && same (opposite t) s) (subst T (along_is d t s) h))
  where
    go : T (same t s) ⊎ T (not d && same (opposite t) s) → (s ≡ t) ⊎ (s ≡ opposite t)
    go (inl q) = inl (sym (same_is t s q))
    go (inr q) = inr (sym (same_is (opposite t) s (and_elim (not d) (same (opposite t) s) q).1))

-- ---- a face with a step along t has both its ends

-- a step of a face goes from corner to corner
step_corners : (v : Face) (s : Step) → Memᴰ s (steps v) → T (has s.from (corners v)) × T (has s.to (corners v))
step_corners v s m = go (mem_three m)
  where
    at_a : T (has v.a (corners v))
    at_a = mem_has v.a (corners v) (Memᴰ.head refl)

    at_b : T (has v.b (corners v))
    at_b = mem_has v.b (corners v) (Memᴰ.tail (Memᴰ.head refl))

    at_c : T (has v.c (corners v))
    at_c = mem_has v.c (corners v) (Memᴰ.tail (Memᴰ.tail (Memᴰ.head refl)))

    go : (s ≡ step v.a v.b) ⊎ ((s ≡ step v.b v.c) ⊎ (s ≡ step v.c v.a)) → T (has s.from (corners v)) × T (has s.to (corners v))
    go (inl e) = rw e (at_a, at_b)
    go (inr (inl e)) = rw e (at_b, at_c)
    go (inr (inr e)) = rw e (at_c, at_a)

-- so the ends of t are corners
has_ends : (d : Bool) (t : Step) (v : Face) → T (any (along d t) (steps v)) → T (has t.from (corners v) && has t.to (corners v))
has_ends d t v h =
    let m = any_mem (along d t) (steps v) h in
    go m.0 (step_corners v m.0 m.1) (along_ends d t m.0 m.2)
  where
    go : (s : Step) → T (has s.from (corners v)) × T (has s.to (corners v)) → (s ≡ t) ⊎ (s ≡ opposite t) → T (has t.from (corners v) && has t.to (corners v))
    go s c (inl e) = let k : T (has t.from (corners v)) × T (has t.to (corners v)) = rw e at c in and_i (has t.from (corners v)) (has t.to (corners v)) k.0 k.1
    go s c (inr e) =
        let k : T (has t.to (corners v)) × T (has t.from (corners v)) = unfold opposite in (rw e at c) in
        and_i (has t.from (corners v)) (has t.to (corners v)) k.1 k.0

-- exchanged or not, a face has the same corners
pub view_has : (xs w : List ℕ) (f x : ℕ) → has x (corners (view xs w f)) ≡ has x (corners (face (faces_of xs) f))
unfolding view
view_has xs w f x = go (straight w f) (face (faces_of xs) f)
  where
    three : (a b c : Bool) → (a || (c || (b || false))) ≡ (a || (b || (c || false)))
    three true b c = refl
    three false true true = refl
    three false true false = refl
    three false false true = refl
    three false false false = refl

    go : (b : Bool) (v : Face) → has x (corners (cond b v (exchanged v))) ≡ has x (corners v)
    go true v = refl
    go false v = unfold has any exchanged in (three (eqb x v.a) (eqb x v.b) (eqb x v.c))

-- a face without both corners has no entry
pub none_along : (xs w : List ℕ) (d : Bool) (a b f : ℕ) → joins xs a b f ≡ false → filter (along d (step a b)) (steps (view xs w f)) ≡ []
unfolding joins
none_along xs w d a b f e =
    none_filter (along d (step a b)) (steps (view xs w f))
    (go (any (along d (step a b)) (steps (view xs w f))) refl)
  where
    go : (r : Bool) → any (along d (step a b)) (steps (view xs w f)) ≡ r → r ≡ false
    go false q = refl
    go true q =
        absurd
        (subst T (ap₂ (λ x y. x && y) (view_has xs w f a) (view_has xs w f b) ∙ e)
        (has_ends d (step a b) (view xs w f) (subst T (sym q) tt)))

-- ---- the entries, one face after the other

-- a number of a face for each of its steps that are taken, of the faces below k that stand
abbrev pub list_of : (ℕ → List Step) → List ℕ → ℕ → List ℕ
list_of ss w k = each (λ f. map (λ s. f) (ss f)) (there w k)

module _ (ss : ℕ → List Step) (w : List ℕ) where
  -- of no face
  pub list_none : list_of ss w 0 ≡ []
  unfolding each filter below
  list_none = refl

  -- one face more
  pub list_next : (k : ℕ) → list_of ss w (suc k) ≡ list_of ss w k ++ cond (stands w k) (map (λ s. k) (ss k)) []
  list_next k =
      ap (each (λ f. map (λ s. f) (ss f))) (there_next w k)
      ∙ each_append (λ f. map (λ s. f) (ss f)) (there w k) (cond (stands w k) (k ∷ []) [])
      ∙ ap (λ l. list_of ss w k ++ l) (under_cond (each (λ f. map (λ s. f) (ss f))) (stands w k) (k ∷ []) [] ∙ unfold each in (ap (λ l. cond (stands w k) l []) (append-nil (map (λ s. k) (ss k)))))

  -- one that has none
  list_same : (k : ℕ) → ss k ≡ [] → list_of ss w (suc k) ≡ list_of ss w k
  list_same k e = list_next k ∙ rw e (go (stands w k))
    where
      go : (b : Bool) → list_of ss w k ++ cond b [] [] ≡ list_of ss w k
      go true = append-nil (list_of ss w k)
      go false = append-nil (list_of ss w k)

  -- several that have none
  pub list_skip : (k r : ℕ) → k ≤ r → ((g : ℕ) → k ≤ g → g < r → ss g ≡ []) → list_of ss w r ≡ list_of ss w k
  list_skip k r h n = le_ind (λ (m : ℕ). m ≤ r → list_of ss w m ≡ list_of ss w k) (λ l. refl) (λ m l i q. list_same m (n m l (omega arith)) ∙ i (omega arith)) r h (omega arith)

  -- how many
  pub list_length : (k : ℕ) → length (list_of ss w (suc k)) ≡ length (list_of ss w k) + cond (stands w k) (length (ss k)) 0
  list_length k =
      ap length (list_next k)
      ∙ length-append (list_of ss w k) (cond (stands w k) (map (λ s. k) (ss k)) [])
      ∙ ap (λ n. length (list_of ss w k) + n) (under_cond length (stands w k) (map (λ s. k) (ss k)) [] ∙ ap (λ n. cond (stands w k) n 0) (length-map (ss k) (λ s. k)))

-- the test of a list of three
pub three_pass : (p : Step → Bool) (s t u : Step) → cond (p s) 1 0 + cond (p t) 1 0 + cond (p u) 1 0 ≡ length (filter p (s ∷ t ∷ u ∷ []))
unfolding filter
three_pass p s t u = go (p s) (p t) (p u)
  where
    go : (a b c : Bool) → cond a 1 0 + cond b 1 0 + cond c 1 0 ≡ length (cond a (s ∷ cond b (t ∷ cond c (u ∷ []) []) (cond c (u ∷ []) [])) (cond b (t ∷ cond c (u ∷ []) []) (cond c (u ∷ []) [])))
    go true true true = refl
    go true true false = refl
    go true false true = refl
    go true false false = refl
    go false true true = refl
    go false true false = refl
    go false false true = refl
    go false false false = refl
