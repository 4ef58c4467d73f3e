-- The rules' refusal 7 from what the scan knows. Assumes nothing.
use mathlib.Core.Path.{◌≡◌, refl, sym, ap, ◌∙◌, subst}
use mathlib.Core.Bool.{Bool, true, false, not, ◌&&◌, ◌||◌}
use mathlib.Core.List.{List, [], ◌∷◌, map}
use Prim.Native.Nat.{ℕ, zero, suc, ◌+◌, ◌*◌, ◌/◌, ◌%◌, ◌≤◌, ◌<◌}
use native.Mathlib.Nat.{div-add-mod', mod-lt, div-lt_iff_lt-mul}
use native.Mathlib.Omega.{arith}
use native.Mathlib.Decide.{ℕ_discrete, dec_le, dec_lt}
use borrow.Author.Tests.{lt-ltb, le-ltb, le-leb, lt-leb, leb-true}
use lib.ListN.{length, length-map}
use lib.Dec.{T, leb, ltb}
use Rattle.rules.specs.Lists.{below, filter, count, any, all, first, each}
use Rattle.rules.specs.Mesh.{Face, faces_of}
use Rattle.rules.specs.Steps.{Step, step, steps, same, edge, entries, users, edges}
use Rattle.rules.specs.Edges.{no7}
use Rattle.rules.specs.Refusal.{ok, at_first}
use Rattle.rules.specs.Refusal as rule
use Rattle.rule_laws.proofs.Lists.{filter_map, count_below}
use Rattle.rule_laws.proofs.Counting.{count_zero}
use Rattle.rule_laws.proofs.Once.{same_eq}
use Rattle.rule_laws.proofs.InOut.{users_count}
use Rattle.refuse.specs.Accepted.{Faces}
use Rattle.halves.specs.Scan.{one, users_of, users_at, edge_at, edges_to, Calm, Crowded}
use Rattle.halves.specs.Gather.{halves}
use Rattle.halves.proofs.Weights.{users_same, users_other, one_true, one_false}
use Rattle.halves.proofs.Scanning.{users_at_is}
use Rattle.halves.proofs.Halves.{halves_sym}
use Rattle.halves.proofs.Ranges.{points}
use Rattle.verdict.proofs.Walks.{count_none, count_cons, halves_count, users_two, users_loop}
use Rattle.verdict.proofs.Passing.{no_fault, a_fault}
use Rattle.verdict.proofs.Pairs.{pair, pairs_keys}

-- a test that is true
true_is : {b : Bool} → b ≡ true → T b
true_is e = subst T (sym e) tt

-- some element passes exactly where the count is not 0
any_count : {A : Type 0} (p : A → Bool) (xs : List A) → any p xs ≡ ltb 0 (count p xs)
unfolding any
any_count p [] = sym (le-ltb 0 (count p []) (omega (arith, count_none p)))
any_count p (x ∷ xs) = go (p x) refl (any_count p xs)
  where
    go : (b : Bool) → p x ≡ b → any p xs ≡ ltb 0 (count p xs) → (p x || any p xs) ≡ ltb 0 (count p (x ∷ xs))
    go true e r =
        let w = count_cons p x xs in
        let v : count p (x ∷ xs) ≡ 1 + count p xs = (rw e at w) ∙ ap (λ (n : ℕ). n + count p xs) one_true in
        rw e (sym (lt-ltb 0 (count p (x ∷ xs)) (omega arith)))
    go false e r =
        let w = count_cons p x xs in
        let v : count p (x ∷ xs) ≡ 0 + count p xs = (rw e at w) ∙ ap (λ (n : ℕ). n + count p xs) one_false in
        let z : count p xs ≡ count p (x ∷ xs) = omega arith in
        rw e (r ∙ ap (λ (n : ℕ). ltb 0 n) z)

module _ {A B : Type 0} (g : B → Bool) (h : A → B) where
  -- the first of changed elements
  first_map : (xs : List A) → first g (map h xs) ≡ first (λ x. g (h x)) xs
  unfolding first
  first_map [] = refl
  first_map (x ∷ xs) = rw (first_map xs)

  -- all of them
  all_map : (xs : List A) → all g (map h xs) ≡ all (λ x. g (h x)) xs
  unfolding all
  all_map [] = refl
  all_map (x ∷ xs) = rw (all_map xs)

-- the first fault among them
at_first_map : {A B : Type 0} (n : ℕ) (g : B → Bool) (h : A → B) (xs : List A) → at_first n g (map h xs) ≡ at_first n (λ x. g (h x)) xs
unfolding at_first
at_first_map n g h xs = rw (first_map g h xs, all_map (λ x. not (g x)) h xs)

-- no edge is written from its higher end
upper_none : (fs : List Face) (v u : ℕ) → u < v → length (users fs (step v u)) ≡ 0
unfolding edge
upper_none fs v u h = users_count fs (step v u) ∙ count_zero (λ s. same (step v u) (edge s)) (each steps fs) (λ s m t. let e = same_eq (step v u) (edge s) t in omega (arith, e.0, e.1))

module _ (f : List ℕ) (P : ℕ) (q : Faces P f) where
  module _ (k : ℕ) (b : k < P * P) where
    -- both ends of a key are points
    pub u_in : k % P < P
    u_in = mod-lt k (points P k b)

    -- the vertex too
    pub v_in : k / P < P
    v_in = (div-lt_iff_lt-mul (points P k b)).1 b

    -- and make up the key
    pub key : k / P * P + k % P ≡ k
    key = div-add-mod' k P

    -- the even half entries of a key are the steps from its vertex to the other end
    pub even_is : halves f P (length f) (2 * k) ≡ count (same (step (k / P) (k % P))) (each steps (faces_of f))
    even_is = ap (λ (z : ℕ). halves f P (length f) (2 * z)) (sym key) ∙ halves_count P (k / P) (k % P) v_in u_in f q

    -- the odd ones are those back
    pub odd_is : halves f P (length f) (2 * k + 1) ≡ count (same (step (k % P) (k / P))) (each steps (faces_of f))
    odd_is =
        ap (λ (z : ℕ). halves f P (length f) (2 * z + 1)) (sym key)
        ∙ sym (halves_sym f P q (length f) (k % P) (k / P) (omega arith) u_in v_in)
        ∙ halves_count P (k % P) (k / P) u_in v_in f q

    -- the users of its edge, by both
    pub at_is : users_at (halves f P (length f)) P k ≡ users_of (k / P) (k % P) (halves f P (length f) (2 * k) + halves f P (length f) (2 * k + 1)) (halves f P (length f) (2 * k))
    at_is = users_at_is (halves f P (length f)) P k (halves f P (length f) (2 * k) + halves f P (length f) (2 * k + 1)) (halves f P (length f) (2 * k)) refl refl

    -- the users of the edge of a key from its lower end, and that there are some
    pub record Users : Type 0 where
      pub users_is : users_at (halves f P (length f)) P k ≡ length (users (faces_of f) (step (k / P) (k % P)))
      some : 0 < halves f P (length f) (2 * k) + halves f P (length f) (2 * k + 1) → 0 < length (users (faces_of f) (step (k / P) (k % P)))
      few : length (users (faces_of f) (step (k / P) (k % P))) ≤ halves f P (length f) (2 * k) + halves f P (length f) (2 * k + 1)

    -- it is so from the lower end
    pub lower_users : k / P ≤ k % P → Users
    lower_users l = go (ℕ_discrete (k / P) (k % P))
      where
        go : Dec (k / P ≡ k % P) → Users
        go (no n) =
            let t = users_two (k / P) (k % P) (omega arith) (faces_of f) in
            let o = users_other (k / P) (k % P) (halves f P (length f) (2 * k) + halves f P (length f) (2 * k + 1)) (halves f P (length f) (2 * k)) n in
            let a = even_is in
            let c = odd_is in
            let i = at_is in
            record { users_is = omega arith; some = λ h. omega arith; few = omega arith }
        go (yes e) =
            let t = users_loop (k / P) (k / P) (faces_of f) in
            let t₁ = ap (λ (z : ℕ). length (users (faces_of f) (step (k / P) z))) e in
            let t₂ = ap (λ (z : ℕ). count (same (step (k / P) z)) (each steps (faces_of f))) e in
            let t₃ = ap (λ (z : ℕ). count (same (step z (k / P))) (each steps (faces_of f))) e in
            let o = users_same (k / P) (k % P) (halves f P (length f) (2 * k) + halves f P (length f) (2 * k + 1)) (halves f P (length f) (2 * k)) e in
            let a = even_is in
            let c = odd_is in
            let i = at_is in
            record { users_is = omega arith; some = λ h. omega arith; few = omega arith }

    -- a pair is an edge of the rules where it has users
    used_users : any (λ n. same (pair P k) (edge n.along)) (entries (faces_of f)) ≡ ltb 0 (length (users (faces_of f) (step (k / P) (k % P))))
    unfolding users count
    used_users =
        any_count (λ n. same (pair P k) (edge n.along)) (entries (faces_of f))
        ∙ ap (λ (n : ℕ). ltb 0 n) (sym (length-map (filter (λ n. same (pair P k) (edge n.along)) (entries (faces_of f))) (λ n. n.by)) ∙ refl)

    -- that is where the scan counts one
    used_is : any (λ n. same (pair P k) (edge n.along)) (entries (faces_of f)) ≡ (leb (k / P) (k % P) && ltb 0 (halves f P (length f) (2 * k) + halves f P (length f) (2 * k + 1)))
    used_is = used_users ∙ go (dec_le (k / P) (k % P)) (dec_lt 0 (halves f P (length f) (2 * k) + halves f P (length f) (2 * k + 1)))
      where
        go : Dec (k / P ≤ k % P) → Dec (0 < halves f P (length f) (2 * k) + halves f P (length f) (2 * k + 1)) → ltb 0 (length (users (faces_of f) (step (k / P) (k % P)))) ≡ (leb (k / P) (k % P) && ltb 0 (halves f P (length f) (2 * k) + halves f P (length f) (2 * k + 1)))
        go (no n) d = rw (lt-leb (k / P) (k % P) (omega arith)) (le-ltb 0 (length (users (faces_of f) (step (k / P) (k % P)))) (omega (arith, upper_none (faces_of f) (k / P) (k % P) (omega arith))))
        go (yes l) (yes s) = rw (le-leb (k / P) (k % P) l, lt-ltb 0 (halves f P (length f) (2 * k) + halves f P (length f) (2 * k + 1)) s) (lt-ltb 0 (length (users (faces_of f) (step (k / P) (k % P)))) ((lower_users l).some s))
        go (yes l) (no s) = rw (le-leb (k / P) (k % P) l, le-ltb 0 (halves f P (length f) (2 * k) + halves f P (length f) (2 * k + 1)) (omega arith)) (le-ltb 0 (length (users (faces_of f) (step (k / P) (k % P)))) (omega (arith, (lower_users l).few)))

    -- an edge is written from its lower end
    used_lower : any (λ n. same (pair P k) (edge n.along)) (entries (faces_of f)) ≡ true → k / P ≤ k % P
    used_lower e = leb-true (k / P) (k % P) (go (leb (k / P) (k % P)) (ltb 0 (halves f P (length f) (2 * k) + halves f P (length f) (2 * k + 1))) (sym used_is ∙ e))
      where
        go : (x y : Bool) → (x && y) ≡ true → x ≡ true
        go true y h = refl
        go false y h = h

    -- so it adds one to the position
    edge_is : edge_at (halves f P (length f)) P k ≡ one (any (λ n. same (pair P k) (edge n.along)) (entries (faces_of f)))
    unfolding edge_at
    edge_is = ap one (sym used_is)

  -- the edges before a key
  edges_are : (k : ℕ) → k ≤ P * P → count (λ j. any (λ n. same (pair P j) (edge n.along)) (entries (faces_of f))) (below k) ≡ edges_to (halves f P (length f)) P k
  unfolding edges_to below one
  edges_are zero h = count_none (λ j. any (λ n. same (pair P j) (edge n.along)) (entries (faces_of f)))
  edges_are (suc k) h =
      count_below (λ j. any (λ n. same (pair P j) (edge n.along)) (entries (faces_of f))) k
      ∙ cc (edges_are k (omega arith), edge_is k (omega arith))

  -- 7 looks at the keys that are edges
  no7_is : no7 P (faces_of f) ≡ at_first 7 (λ k. ltb 2 (length (users (faces_of f) (pair P k)))) (filter (λ k. any (λ n. same (pair P k) (edge n.along)) (entries (faces_of f))) (below (P * P)))
  unfolding no7 edges
  no7_is =
      ap (λ (l : List Step). at_first 7 (λ e. ltb 2 (length (users (faces_of f) e))) (filter (λ e. any (λ n. same e (edge n.along)) (entries (faces_of f))) l)) (pairs_keys P)
      ∙ ap (λ (l : List Step). at_first 7 (λ e. ltb 2 (length (users (faces_of f) e))) l) (filter_map (λ e. any (λ n. same e (edge n.along)) (entries (faces_of f))) (pair P) (below (P * P)))
      ∙ at_first_map 7 (λ e. ltb 2 (length (users (faces_of f) e))) (pair P) (filter (λ k. any (λ n. same (pair P k) (edge n.along)) (entries (faces_of f))) (below (P * P)))

  -- none that is passed is crowded
  calm_below : (k : ℕ) → k ≤ P * P → Calm (halves f P (length f)) P k → (j : ℕ) → j < k → any (λ n. same (pair P j) (edge n.along)) (entries (faces_of f)) ≡ true → ltb 2 (length (users (faces_of f) (pair P j))) ≡ false
  calm_below k h t j l e =
      let b : j < P * P = omega arith in
      let o = used_lower j b e in
      le-ltb 2 (length (users (faces_of f) (pair P j))) (omega (arith, t.few j l o, (lower_users j b o).users_is))

  -- so 7 is not given
  pub seven_none : Calm (halves f P (length f)) P (P * P) → no7 P (faces_of f) ≡ ok
  seven_none t = no7_is ∙ no_fault (λ k. any (λ n. same (pair P k) (edge n.along)) (entries (faces_of f))) (λ k. ltb 2 (length (users (faces_of f) (pair P k)))) 7 (P * P) (calm_below (P * P) (omega arith) t)

  -- the first crowded edge is found, at its position
  pub seven_found : {n : ℕ} → Crowded (halves f P (length f)) P n → no7 P (faces_of f) ≡ rule.no 7 n
  seven_found {n} t =
      let b = t.within in
      let s = lower_users t.key b t.lower in
      let m = t.many in
      let u = s.users_is in
      no7_is
      ∙ a_fault (λ k. any (λ n. same (pair P k) (edge n.along)) (entries (faces_of f))) (λ k. ltb 2 (length (users (faces_of f) (pair P k)))) 7 (P * P) t.key b
      (calm_below t.key (omega arith) t.calm)
      (true_is (used_users t.key b ∙ lt-ltb 0 (length (users (faces_of f) (step (t.key / P) (t.key % P)))) (omega arith)))
      (true_is (lt-ltb 2 (length (users (faces_of f) (pair P t.key))) (omega arith)))
      ∙ ap (λ (z : ℕ). rule.no 7 z) (edges_are t.key (omega arith) ∙ sym t.counted)
