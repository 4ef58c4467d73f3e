-- The counts of half entries are counts of the rules' steps, and so are an edge's users. Assumes nothing.
use mathlib.Core.Path.{◌≡◌, refl, sym, ap, ◌∙◌}
use mathlib.Core.Bool.{Bool, true, false, ◌&&◌, cond}
use mathlib.Core.List.{List, [], ◌∷◌, ◌++◌}
use Prim.Native.Nat.{ℕ, zero, suc, ◌+◌, ◌*◌, ◌/◌, ◌≤◌, ◌<◌, min, max}
use native.Mathlib.Omega.{arith}
use native.Mathlib.Decide.{ℕ_discrete}
use borrow.Author.Tests.{eq-eqb, ne_eqb}
use lib.ListN.{length, get_or, take}
use lib.Seq.{take_all}
use lib.Dec.{eqb}
use Rattle.rules.specs.Lists.{filter, count, each}
use Rattle.rules.specs.Mesh.{Face, faces_from, faces_of}
use Rattle.rules.specs.Steps.{Step, step, steps, same, edge, users}
use Rattle.rule_laws.proofs.Lists.{each_append}
use Rattle.rule_laws.proofs.Counting.{count_append}
use Rattle.rule_laws.proofs.InOut.{users_count}
use Rattle.rule_laws.proofs.Flat.{faces_take}
use Rattle.refuse.specs.Accepted.{Faces}
use Rattle.halves.specs.Split.{hit}
use Rattle.halves.specs.Scan.{one}
use Rattle.halves.specs.Gather.{next_of, halves}
use Rattle.halves.proofs.Tallies.{hit_same, hit_other}
use Rattle.halves.proofs.Weights.{one_true, one_false}
use Rattle.halves.proofs.Halves.{next_last, next_more, halves_zero, halves_suc, pair_same}

module _ {A : Type 0} (p : A → Bool) where
  -- none of no elements
  pub count_none : count p [] ≡ 0
  unfolding count filter
  count_none = refl

  -- one more element
  pub count_cons : (x : A) (xs : List A) → count p (x ∷ xs) ≡ one (p x) + count p xs
  unfolding count filter one
  count_cons x xs = go (p x)
    where
      go : (b : Bool) → length (cond b (x ∷ filter p xs) (filter p xs)) ≡ cond b 1 0 + length (filter p xs)
      go true = omega arith
      go false = omega arith

  -- three more at the end
  pub count_three : (xs : List A) (a b c : A) → count p (xs ++ (a ∷ b ∷ c ∷ [])) ≡ count p xs + (one (p a) + (one (p b) + one (p c)))
  count_three xs a b c = omega (arith, count_append p xs (a ∷ b ∷ c ∷ []), count_cons a (b ∷ c ∷ []), count_cons b (c ∷ []), count_cons c [], count_none)

-- the steps of one face
pub last : (t : Face) → each steps (t ∷ []) ≡ steps t
unfolding each
last t = refl

-- ---- half entries

-- a step is itself
pub same_yes : (v u x y : ℕ) → v ≡ x → u ≡ y → one (same (step v u) (step x y)) ≡ 1
unfolding same
same_yes v u x y e f = rw (eq-eqb v x e, eq-eqb u y f) one_true

-- and no other
pub same_no : (v u x y : ℕ) → ((v ≡ x) × (u ≡ y) → ⊥) → one (same (step v u) (step x y)) ≡ 0
unfolding same
same_no v u x y n = go (ℕ_discrete v x) (ℕ_discrete u y)
  where
    go : Dec (v ≡ x) → Dec (u ≡ y) → one (eqb v x && eqb u y) ≡ 0
    go (yes e) (yes f) = absurd (n (e, f))
    go (yes e) (no f) = rw (eq-eqb v x e, ne_eqb u y f) one_false
    go (no e) d = rw (ne_eqb v x e) one_false

module _ (P v u : ℕ) (hv : v < P) (hu : u < P) where
  -- half entries by their steps
  hit_step : (x y : ℕ) → x < P → y < P → hit (2 * (x * P + y)) (2 * (v * P + u)) ≡ one (same (step v u) (step x y))
  hit_step x y hx hy = go (ℕ_discrete v x) (ℕ_discrete u y)
    where
      none : ((v ≡ x) × (u ≡ y) → ⊥) → hit (2 * (x * P + y)) (2 * (v * P + u)) ≡ one (same (step v u) (step x y))
      none n = hit_other (2 * (x * P + y)) (2 * (v * P + u)) (λ e. let q = pair_same P x y v u hy hu (omega arith) in n (sym q.0, sym q.1)) ∙ sym (same_no v u x y n)

      go : Dec (v ≡ x) → Dec (u ≡ y) → hit (2 * (x * P + y)) (2 * (v * P + u)) ≡ one (same (step v u) (step x y))
      go (yes e) (yes f) = rw (e, f) (hit_same (2 * (x * P + y)) ∙ sym (same_yes x y x y refl refl))
      go (yes e) (no f) = none (λ q. f q.1)
      go (no e) d = none (λ q. e q.0)

  module _ (f : List ℕ) (q : Faces P f) where
    -- one more step
    half_one : (j x y : ℕ) → get_or f j 0 ≡ x → get_or f (next_of j) 0 ≡ y → x < P → y < P → halves f P (suc j) (2 * (v * P + u)) ≡ halves f P j (2 * (v * P + u)) + one (same (step v u) (step x y))
    half_one j x y ex ey hx hy =
        let s = rw (ex, ey) at (halves_suc f P j (2 * (v * P + u))) in
        omega (arith, hit_step x y hx hy, hit_other (2 * (y * P + x) + 1) (2 * (v * P + u)) (λ e. omega arith))

    -- one more face
    steps_suc : (i : ℕ) → 3 * i + 2 < length f → each steps (faces_of (take (3 * suc i) f)) ≡ each steps (faces_of (take (3 * i) f)) ++ (step (get_or f (3 * i) 0) (get_or f (3 * i + 1) 0) ∷ step (get_or f (3 * i + 1) 0) (get_or f (3 * i + 2) 0) ∷ step (get_or f (3 * i + 2) 0) (get_or f (3 * i) 0) ∷ [])
    steps_suc i h =
        ap (λ (l : List Face). each steps l) (faces_take f i h)
        ∙ each_append steps (faces_of (take (3 * i) f)) (record { a = get_or f (3 * i) 0; b = get_or f (3 * i + 1) 0; c = get_or f (3 * i + 2) 0; origin = i } ∷ [])
        ∙ ap (λ (l : List Step). each steps (faces_of (take (3 * i) f)) ++ l) (last (record { a = get_or f (3 * i) 0; b = get_or f (3 * i + 1) 0; c = get_or f (3 * i + 2) 0; origin = i }))

    -- the steps of the first faces
    walk_count : (i : ℕ) → 3 * i ≤ length f → halves f P (3 * i) (2 * (v * P + u)) ≡ count (same (step v u)) (each steps (faces_of (take (3 * i) f)))
    unfolding each faces_from
    walk_count zero h = halves_zero f P (2 * (v * P + u)) ∙ sym (count_none (same (step v u)))
    walk_count (suc i) h =
        let e : 3 * suc i ≡ suc (suc (suc (3 * i))) = omega arith in
        let n₀ : next_of (3 * i) ≡ 3 * i + 1 = next_more (3 * i) (omega arith) in
        let n₁ : next_of (suc (3 * i)) ≡ 3 * i + 2 = next_more (suc (3 * i)) (omega arith) ∙ (omega arith) in
        let n₂ : next_of (suc (suc (3 * i))) ≡ 3 * i = next_last (suc (suc (3 * i))) (omega arith) ∙ (omega arith) in
        let e₁ : suc (3 * i) ≡ 3 * i + 1 = omega arith in
        let e₂ : suc (suc (3 * i)) ≡ 3 * i + 2 = omega arith in
        let b₀ = q.below (3 * i) (omega arith) in
        let b₁ = q.below (3 * i + 1) (omega arith) in
        let b₂ = q.below (3 * i + 2) (omega arith) in
        let s₀ = half_one (3 * i) (get_or f (3 * i) 0) (get_or f (3 * i + 1) 0) refl (ap (λ (z : ℕ). get_or f z 0) n₀) b₀ b₁ in
        let s₁ = half_one (suc (3 * i)) (get_or f (3 * i + 1) 0) (get_or f (3 * i + 2) 0) (ap (λ (z : ℕ). get_or f z 0) e₁) (ap (λ (z : ℕ). get_or f z 0) n₁) b₁ b₂ in
        let s₂ = half_one (suc (suc (3 * i))) (get_or f (3 * i + 2) 0) (get_or f (3 * i) 0) (ap (λ (z : ℕ). get_or f z 0) e₂) (ap (λ (z : ℕ). get_or f z 0) n₂) b₂ b₀ in
        let r = ap (λ (l : List Step). count (same (step v u)) l) (steps_suc i (omega arith)) ∙ count_three (same (step v u)) (each steps (faces_of (take (3 * i) f))) (step (get_or f (3 * i) 0) (get_or f (3 * i + 1) 0)) (step (get_or f (3 * i + 1) 0) (get_or f (3 * i + 2) 0)) (step (get_or f (3 * i + 2) 0) (get_or f (3 * i) 0)) in
        let o = walk_count i (omega arith) in
        omega (arith, ap (λ (z : ℕ). halves f P z (2 * (v * P + u))) e)

    -- how many steps go from v to u
    pub halves_count : halves f P (length f) (2 * (v * P + u)) ≡ count (same (step v u)) (each steps (faces_of f))
    halves_count =
        let t = q.whole in
        let e : 3 * (length f / 3) ≡ length f = omega arith in
        ap (λ (z : ℕ). halves f P z (2 * (v * P + u))) (sym e) ∙ walk_count (length f / 3) (omega arith) ∙ ap (λ (l : List ℕ). count (same (step v u)) (each steps (faces_of l))) (take_all (3 * (length f / 3)) f (omega arith))

-- ---- an edge's users by its two directions

-- a count is the sum of two where each element's is
pub count_sum : {A : Type 0} (p a b : A → Bool) → ((x : A) → one (p x) ≡ one (a x) + one (b x)) → (xs : List A) → count p xs ≡ count a xs + count b xs
count_sum p a b h [] = omega (arith, count_none p, count_none a, count_none b)
count_sum p a b h (x ∷ xs) = omega (arith, count_cons p x xs, count_cons a x xs, count_cons b x xs, h x, count_sum p a b h xs)

-- or another one where each element agrees
pub count_eq : {A : Type 0} (p a : A → Bool) → ((x : A) → one (p x) ≡ one (a x)) → (xs : List A) → count p xs ≡ count a xs
count_eq p a h [] = count_none p ∙ sym (count_none a)
count_eq p a h (x ∷ xs) = omega (arith, count_cons p x xs, count_cons a x xs, h x, count_eq p a h xs)

module _ (v u : ℕ) where
  -- a step is along an edge one way or the other
  edge_one : v < u → (s : Step) → one (same (step v u) (edge s)) ≡ one (same (step v u) s) + one (same (step u v) s)
  unfolding edge
  edge_one h s = go (ℕ_discrete s.from v)
    where
      none : ((v ≡ min s.from s.to) × (u ≡ max s.from s.to) → ⊥) → ((v ≡ s.from) × (u ≡ s.to) → ⊥) → ((u ≡ s.from) × (v ≡ s.to) → ⊥) → one (same (step v u) (step (min s.from s.to) (max s.from s.to))) ≡ one (same (step v u) (step s.from s.to)) + one (same (step u v) (step s.from s.to))
      none a b c = omega (arith, same_no v u (min s.from s.to) (max s.from s.to) a, same_no v u s.from s.to b, same_no u v s.from s.to c)

      on : s.from ≡ v → Dec (s.to ≡ u) → one (same (step v u) (step (min s.from s.to) (max s.from s.to))) ≡ one (same (step v u) (step s.from s.to)) + one (same (step u v) (step s.from s.to))
      on a (yes b) = omega (arith, same_yes v u (min s.from s.to) (max s.from s.to) (omega arith) (omega arith), same_yes v u s.from s.to (sym a) (sym b), same_no u v s.from s.to (λ z. omega (arith, z.0)))
      on a (no b) = none (λ z. omega (arith, z.0, z.1)) (λ z. b (sym z.1)) (λ z. omega (arith, z.0))

      back : (s.from ≡ v → ⊥) → s.from ≡ u → Dec (s.to ≡ v) → one (same (step v u) (step (min s.from s.to) (max s.from s.to))) ≡ one (same (step v u) (step s.from s.to)) + one (same (step u v) (step s.from s.to))
      back a c (yes d) = omega (arith, same_yes v u (min s.from s.to) (max s.from s.to) (omega arith) (omega arith), same_yes u v s.from s.to (sym c) (sym d), same_no v u s.from s.to (λ z. omega (arith, z.0)))
      back a c (no d) = none (λ z. omega (arith, z.0, z.1)) (λ z. a (sym z.0)) (λ z. d (sym z.1))

      off : (s.from ≡ v → ⊥) → Dec (s.from ≡ u) → one (same (step v u) (step (min s.from s.to) (max s.from s.to))) ≡ one (same (step v u) (step s.from s.to)) + one (same (step u v) (step s.from s.to))
      off a (yes c) = back a c (ℕ_discrete s.to v)
      off a (no c) = none (λ z. omega (arith, z.0, z.1)) (λ z. a (sym z.0)) (λ z. c (sym z.0))

      go : Dec (s.from ≡ v) → one (same (step v u) (step (min s.from s.to) (max s.from s.to))) ≡ one (same (step v u) (step s.from s.to)) + one (same (step u v) (step s.from s.to))
      go (yes a) = on a (ℕ_discrete s.to u)
      go (no a) = off a (ℕ_discrete s.from u)

  -- of an edge from a vertex to itself there is one way
  edge_same : (s : Step) → one (same (step v v) (edge s)) ≡ one (same (step v v) s)
  unfolding edge
  edge_same s = go (ℕ_discrete s.from v) (ℕ_discrete s.to v)
    where
      go : Dec (s.from ≡ v) → Dec (s.to ≡ v) → one (same (step v v) (step (min s.from s.to) (max s.from s.to))) ≡ one (same (step v v) (step s.from s.to))
      go (yes a) (yes b) = same_yes v v (min s.from s.to) (max s.from s.to) (omega arith) (omega arith) ∙ sym (same_yes v v s.from s.to (sym a) (sym b))
      go (no a) b = same_no v v (min s.from s.to) (max s.from s.to) (λ z. omega (arith, z.0, z.1)) ∙ sym (same_no v v s.from s.to (λ z. a (sym z.0)))
      go (yes a) (no b) = same_no v v (min s.from s.to) (max s.from s.to) (λ z. omega (arith, z.0, z.1)) ∙ sym (same_no v v s.from s.to (λ z. b (sym z.1)))

  -- so the users of an edge are the steps both ways
  pub users_two : v < u → (fs : List Face) → length (users fs (step v u)) ≡ count (same (step v u)) (each steps fs) + count (same (step u v)) (each steps fs)
  users_two h fs = users_count fs (step v u) ∙ count_sum (λ s. same (step v u) (edge s)) (same (step v u)) (same (step u v)) (edge_one h) (each steps fs)

  -- or the one way
  pub users_loop : (fs : List Face) → length (users fs (step v v)) ≡ count (same (step v v)) (each steps fs)
  users_loop fs = users_count fs (step v v) ∙ count_eq (λ s. same (step v v) (edge s)) (same (step v v)) edge_same (each steps fs)
