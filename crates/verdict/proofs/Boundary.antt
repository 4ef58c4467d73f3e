-- What the scan sums up over keys is what the rules count over steps. Assumes nothing.
use mathlib.Core.Path.{◌≡◌, refl, sym, ap, ◌∙◌}
use mathlib.Core.Bool.{Bool, true, false, ◌&&◌, cond, and-false, and_comm}
use mathlib.Core.List.{List, [], ◌∷◌, map}
use Prim.Native.Nat.{ℕ, zero, suc, ◌+◌, ◌-◌, ◌*◌, ◌/◌, ◌%◌, ◌≤◌, ◌<◌, min, max}
use native.Mathlib.Nat.{div-add-mod', add-zero, add-suc, mul-le-mul_right}
use native.Mathlib.Omega.{arith}
use native.Mathlib.Decide.{ℕ_discrete, dec_le}
use borrow.Author.Tests.{eq-eqb, ne_eqb}
use lib.ListN.{length}
use lib.Dec.{eqb}
use Rattle.rules.specs.Lists.{filter, count, each}
use Rattle.rules.specs.Mesh.{faces_of, face}
use Rattle.rules.specs.Steps.{Step, step, steps, same, edge, users}
use Rattle.rules.specs.Edges.{begins, ends, boundary}
use Rattle.rule_laws.proofs.Counting.{count_map, count_agree}
use Rattle.rule_laws.proofs.Flat.{face_in, length_faces}
use Rattle.rule_laws.proofs.Rising.{All, all_each, all_from, all_imp}
use Rattle.refuse.specs.Accepted.{Faces}
use Rattle.halves.specs.Scan.{one, out_of, into_of, users_at, beginsTo, endsTo}
use Rattle.halves.specs.Gather.{halves}
use Rattle.halves.proofs.Ranges.{key_div, key_mod}
use Rattle.halves.proofs.Weights.{users_same, users_other, one_false, into_same, into_other, into_none}
use Rattle.verdict.proofs.Walks.{count_none, count_cons, count_eq, same_yes, same_no, users_two}
use Rattle.verdict.proofs.Pairs.{pair}
use Rattle.verdict.proofs.Seven.{even_is, odd_is, at_is, lower_users}

-- both ends of a step are points
abbrev In : ℕ → Step → Type 0
In P s = (s.from < P) × (s.to < P)

-- the key of a step
abbrev key : ℕ → Step → ℕ
key P s = s.from * P + s.to

-- it is below P * P
key_in : (P : ℕ) (s : Step) → In P s → key P s < P * P
key_in P s h = let a : suc s.from ≤ P = h.0 in omega (arith, mul-le-mul_right P a, h.1)

-- and has both ends
on_div : (P : ℕ) (s : Step) → In P s → key P s / P ≡ s.from
on_div P s h = key_div P s.from s.to h.1

-- the other end
on_mod : (P : ℕ) (s : Step) → In P s → key P s % P ≡ s.to
on_mod P s h = key_mod P s.from s.to h.1

-- ---- lists

-- a count of what passes another test
count_filter : {A : Type 0} (p r : A → Bool) (xs : List A) → count p (filter r xs) ≡ count (λ x. p x && r x) xs
unfolding filter
count_filter p r [] = count_none p ∙ sym (count_none (λ x. p x && r x))
count_filter p r (x ∷ xs) = go (r x) refl (p x) refl (count_filter p r xs)
  where
    go : (b : Bool) → r x ≡ b → (a : Bool) → p x ≡ a → count p (filter r xs) ≡ count (λ x. p x && r x) xs → count p (cond (r x) (x ∷ filter r xs) (filter r xs)) ≡ count (λ x. p x && r x) (x ∷ xs)
    go true e true d h = rw e (count_cons p x (filter r xs) ∙ cc (h, d, e) ∙ sym (count_cons (λ x. p x && r x) x xs))
    go true e false d h = rw e (count_cons p x (filter r xs) ∙ cc (h, d, e) ∙ sym (count_cons (λ x. p x && r x) x xs))
    go false e a d h = rw e (let z : (p x && r x) ≡ false = ap (λ (b : Bool). p x && b) e ∙ and-false (p x) in let o = ap one z in let c = count_cons (λ x. p x && r x) x xs in omega (arith, one_false))

-- a step the other way
abbrev back : Step → Step
back s = step s.to s.from

-- its ends are points too
back_in : (P : ℕ) (M : List Step) → All (In P) M → All (In P) (map back M)
back_in P [] t = tt
back_in P (s ∷ M) t = ((t.0.1, t.0.0), back_in P M t.1)

-- the steps the other way
back_count : (v u : ℕ) (M : List Step) → count (same (step v u)) (map back M) ≡ count (same (step u v)) M
unfolding same
back_count v u M = count_map (same (step v u)) back M ∙ count_eq (λ s. same (step v u) (back s)) (same (step u v)) (λ s. ap one (and_comm (eqb v s.to) (eqb u s.from))) M

-- what ends at a vertex, by the half entries alone
into_is : (v u n e : ℕ) → (n ≡ 1 → v ≡ u → e ≡ 1) → into_of v u n e ≡ cond (eqb n 1) e 0
into_is v u n e h = go (ℕ_discrete n 1) (ℕ_discrete v u)
  where
    go : Dec (n ≡ 1) → Dec (v ≡ u) → into_of v u n e ≡ cond (eqb n 1) e 0
    go (yes p) (yes r) = into_same v u n e p r ∙ rw (eq-eqb n 1 p) (sym (h p r))
    go (yes p) (no r) = into_other v u n e p r ∙ rw (eq-eqb n 1 p)
    go (no p) d = into_none v u n e p ∙ rw (ne_eqb n 1 p)

-- ---- a sum over keys

module _ (w : ℕ → Bool) (P v : ℕ) where
  -- how many steps of M that begin at v have a key below k that passes
  sum : List Step → ℕ → ℕ
  sum M zero = 0
  sum M (suc k) = sum M k + cond (eqb (k / P) v) (cond (w k) (count (same (pair P k)) M) 0) 0

  -- one more key
  sum_suc : (M : List Step) (k : ℕ) → sum M (suc k) ≡ sum M k + cond (eqb (k / P) v) (cond (w k) (count (same (pair P k)) M) 0) 0
  unfolding sum
  sum_suc M k = refl

  -- no steps
  sum_nil : (k : ℕ) → sum [] k ≡ 0
  unfolding sum
  sum_nil zero = refl
  sum_nil (suc k) = rw (sum_nil k, count_none (same (pair P k))) (go (eqb (k / P) v) (w k))
    where
      go : (a b : Bool) → 0 + cond a (cond b 0 0) 0 ≡ 0
      go true true = refl
      go true false = refl
      go false b = refl

  module _ (s : Step) (M : List Step) (h : In P s) where
    -- a step does not count at another key
    off_key : (k : ℕ) → (k ≡ key P s → ⊥) → count (same (pair P k)) (s ∷ M) ≡ count (same (pair P k)) M
    off_key k n = omega (arith, count_cons (same (pair P k)) s M, same_no (k / P) (k % P) s.from s.to (λ z. n (sym (div-add-mod' k P) ∙ cc (z.0, z.1))))

    -- nor below its own
    sum_before : (k : ℕ) → k ≤ key P s → sum (s ∷ M) k ≡ sum M k
    unfolding sum
    sum_before zero l = refl
    sum_before (suc k) l = rw (sum_before k (omega arith), off_key k (omega arith))

    -- it counts at its own
    on_key : count (same (pair P (key P s))) (s ∷ M) ≡ suc (count (same (pair P (key P s))) M)
    on_key = omega (arith, count_cons (same (pair P (key P s))) s M, same_yes (key P s / P) (key P s % P) s.from s.to (on_div P s h) (on_mod P s h))

    -- once, if it begins at v and passes
    sum_at : sum (s ∷ M) (suc (key P s)) ≡ one (eqb s.from v && w (key P s)) + sum M (suc (key P s))
    unfolding sum one
    sum_at =
        rw (sum_before (key P s) (omega arith), on_key)
        (go (eqb (key P s / P) v) (w (key P s))
        ∙ ap (λ (z : ℕ). cond (eqb z v && w (key P s)) 1 0 + (sum M (key P s) + cond (eqb (key P s / P) v) (cond (w (key P s)) (count (same (pair P (key P s))) M) 0) 0)) (on_div P s h))
      where
        go : (a b : Bool) → sum M (key P s) + cond a (cond b (suc (count (same (pair P (key P s))) M)) 0) 0 ≡ cond (a && b) 1 0 + (sum M (key P s) + cond a (cond b (count (same (pair P (key P s))) M) 0) 0)
        go true true = omega arith
        go true false = omega arith
        go false b = omega arith

    -- and no more after that
    sum_after : (m : ℕ) → sum (s ∷ M) (suc (key P s) + m) ≡ one (eqb s.from v && w (key P s)) + sum M (suc (key P s) + m)
    sum_after zero = rw (add-zero) sum_at
    sum_after (suc m) =
        let k : ℕ = suc (key P s) + m in
        let o = ap (λ (n : ℕ). cond (eqb ((suc (key P s) + m) / P) v) (cond (w (suc (key P s) + m)) n 0) 0) (off_key (suc (key P s) + m) (omega arith)) in
        rw (add-suc (suc (key P s)) m) (omega (arith, sum_suc (s ∷ M) (suc (key P s) + m), sum_suc M (suc (key P s) + m), sum_after m))

  -- so the sum over all keys is a count over the steps
  sum_all : (M : List Step) → All (In P) M → sum M (P * P) ≡ count (λ s. eqb s.from v && w (key P s)) M
  sum_all [] t = sum_nil (P * P) ∙ sym (count_none (λ s. eqb s.from v && w (key P s)))
  sum_all (s ∷ M) t =
      let b = key_in P s t.0 in
      let e : suc (key P s) + (P * P - suc (key P s)) ≡ P * P = omega arith in
      ap (λ (z : ℕ). sum (s ∷ M) z) (sym e) ∙ sum_after s M t.0 (P * P - suc (key P s))
      ∙ ap (λ (z : ℕ). one (eqb s.from v && w (key P s)) + sum M z) e
      ∙ ap (λ (z : ℕ). one (eqb s.from v && w (key P s)) + z) (sum_all M t.1)
      ∙ sym (count_cons (λ s. eqb s.from v && w (key P s)) s M)

-- ---- the steps of a mesh

module _ (f : List ℕ) (P : ℕ) (q : Faces P f) where
  -- the ends of all steps are points
  all_in : All (In P) (each steps (faces_of f))
  unfolding face
  all_in =
      all_each (In P) steps (faces_of f)
      (all_from (λ t. All (In P) (steps t)) (record { a = 0; b = 0; c = 0; origin = 0 }) (faces_of f)
      (λ i l.
      let h : i < length f / 3 = omega (arith, length_faces f) in
      let a = q.below (3 * i) (omega arith) in
      let b = q.below (3 * i + 1) (omega arith) in
      let c = q.below (3 * i + 2) (omega arith) in
      rw (face_in f i h) ((a, b), ((b, c), ((c, a), tt)))))

  module _ (s : Step) (h : In P s) where
    -- the users of a step's edge, from either end
    edge_users : users_at (halves f P (length f)) P (key P s) ≡ length (users (faces_of f) (edge s))
    unfolding edge
    edge_users = go (dec_le s.from s.to)
      where
        go : Dec (s.from ≤ s.to) → users_at (halves f P (length f)) P (key P s) ≡ length (users (faces_of f) (step (min s.from s.to) (max s.from s.to)))
        go (yes l) =
            let d = on_div P s h in
            let m = on_mod P s h in
            let a : min s.from s.to ≡ s.from = omega arith in
            let b : max s.from s.to ≡ s.to = omega arith in
            (lower_users f P q (key P s) (key_in P s h) (omega arith)).users_is ∙ cc (a, b, d, m)
        go (no l) =
            let d = on_div P s h in
            let m = on_mod P s h in
            let a : min s.from s.to ≡ s.to = omega arith in
            let b : max s.from s.to ≡ s.from = omega arith in
            let o = users_other (key P s / P) (key P s % P) (halves f P (length f) (2 * key P s) + halves f P (length f) (2 * key P s + 1)) (halves f P (length f) (2 * key P s)) (λ z. omega arith) in
            let t = users_two s.to s.from (omega arith) (faces_of f) in
            let ev = even_is f P q (key P s) (key_in P s h) ∙ ap (λ (z : ℕ). count (same (step z (key P s % P))) (each steps (faces_of f))) d ∙ ap (λ (z : ℕ). count (same (step s.from z)) (each steps (faces_of f))) m in
            let od = odd_is f P q (key P s) (key_in P s h) ∙ ap (λ (z : ℕ). count (same (step z (key P s / P))) (each steps (faces_of f))) m ∙ ap (λ (z : ℕ). count (same (step s.to z)) (each steps (faces_of f))) d in
            let i = at_is f P q (key P s) (key_in P s h) in
            let r : users_at (halves f P (length f)) P (key P s) ≡ length (users (faces_of f) (step s.to s.from)) = omega arith in
            r ∙ cc (a, b)

  -- tests that agree on steps between points count the same
  agree : (p r : Step → Bool) → ((s : Step) → In P s → p s ≡ r s) → count p (each steps (faces_of f)) ≡ count r (each steps (faces_of f))
  agree p r h = count_agree p r (each steps (faces_of f)) (all_imp (In P) (λ s. p s ≡ r s) h (each steps (faces_of f)) all_in)

  -- what the scan sums up of beginnings
  begins_sum : (v k : ℕ) → k ≤ P * P → beginsTo (halves f P (length f)) P k v ≡ sum (λ j. eqb (users_at (halves f P (length f)) P j) 1) P v (each steps (faces_of f)) k
  unfolding beginsTo out_of sum
  begins_sum v zero h = refl
  begins_sum v (suc k) h = cc (begins_sum v k (omega arith), even_is f P q k (omega arith))

  -- is the rules' count
  pub begins_are : (v : ℕ) → v < P → begins (faces_of f) v ≡ beginsTo (halves f P (length f)) P (P * P) v
  unfolding begins boundary
  begins_are v h =
      count_filter (λ s. eqb s.from v) (λ s. eqb (length (users (faces_of f) (edge s))) 1) (each steps (faces_of f))
      ∙ agree (λ s. eqb s.from v && eqb (length (users (faces_of f) (edge s))) 1) (λ s. eqb s.from v && eqb (users_at (halves f P (length f)) P (key P s)) 1) (λ s t. ap (λ (z : ℕ). eqb s.from v && eqb z 1) (sym (edge_users s t)))
      ∙ sym (sum_all (λ j. eqb (users_at (halves f P (length f)) P j) 1) P v (each steps (faces_of f)) all_in)
      ∙ sym (begins_sum v (P * P) (omega arith))

  -- a boundary edge from a vertex to itself ends there once
  ends_one : (k : ℕ) → k < P * P → users_at (halves f P (length f)) P k ≡ 1 → k / P ≡ k % P → halves f P (length f) (2 * k + 1) ≡ 1
  ends_one k b n e =
      let a = at_is f P q k b in
      let o = users_same (k / P) (k % P) (halves f P (length f) (2 * k) + halves f P (length f) (2 * k + 1)) (halves f P (length f) (2 * k)) e in
      let ev = even_is f P q k b ∙ ap (λ (z : ℕ). count (same (step z (k % P))) (each steps (faces_of f))) e in
      let od = odd_is f P q k b ∙ ap (λ (z : ℕ). count (same (step (k % P) z)) (each steps (faces_of f))) e in
      omega arith

  -- what it sums up of ends
  ends_sum : (v k : ℕ) → k ≤ P * P → endsTo (halves f P (length f)) P k v ≡ sum (λ j. eqb (users_at (halves f P (length f)) P j) 1) P v (map back (each steps (faces_of f))) k
  unfolding endsTo sum
  ends_sum v zero h = refl
  ends_sum v (suc k) h =
      cc (
        ends_sum v k (omega arith),
        into_is (k / P) (k % P) (users_at (halves f P (length f)) P k) (halves f P (length f) (2 * k + 1)) (ends_one k (omega arith)),
        odd_is f P q k (omega arith),
        back_count (k / P) (k % P) (each steps (faces_of f)),
      )

  -- the users of a step's edge, from its end
  back_users : (s : Step) → In P s → users_at (halves f P (length f)) P (s.to * P + s.from) ≡ length (users (faces_of f) (edge s))
  unfolding edge
  back_users s h =
      let a : min s.to s.from ≡ min s.from s.to = omega arith in
      let b : max s.to s.from ≡ max s.from s.to = omega arith in
      edge_users (back s) (h.1, h.0) ∙ cc (a, b)

  -- is the rules' count too
  pub ends_are : (v : ℕ) → v < P → ends (faces_of f) v ≡ endsTo (halves f P (length f)) P (P * P) v
  unfolding ends boundary
  ends_are v h =
      count_filter (λ s. eqb s.to v) (λ s. eqb (length (users (faces_of f) (edge s))) 1) (each steps (faces_of f))
      ∙ agree (λ s. eqb s.to v && eqb (length (users (faces_of f) (edge s))) 1) (λ s. eqb s.to v && eqb (users_at (halves f P (length f)) P (s.to * P + s.from)) 1) (λ s t. ap (λ (z : ℕ). eqb s.to v && eqb z 1) (sym (back_users s t)))
      ∙ sym (count_map (λ s. eqb s.from v && eqb (users_at (halves f P (length f)) P (key P s)) 1) back (each steps (faces_of f)))
      ∙ sym (sum_all (λ j. eqb (users_at (halves f P (length f)) P j) 1) P v (map back (each steps (faces_of f))) (back_in P (each steps (faces_of f)) all_in))
      ∙ sym (ends_sum v (P * P) (omega arith))
