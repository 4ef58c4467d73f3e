-- The loops of a simple boundary, as they grow: each closes, no vertex is in them twice, and none that was passed is missing. Assumes nothing.
use mathlib.Core.Path.{◌≡◌, refl, sym, ap, ◌∙◌, subst}
use mathlib.Core.Logic.{◌⊎◌, inl, inr, ◌≢◌}
use mathlib.Core.Bool.{Bool, true, false, not, ◌&&◌, cond}
use mathlib.Core.List.Memᴰ
use mathlib.Core.List.{List, [], ◌∷◌, ◌++◌, reverse, append-nil, Memᴰ}
use Prim.Native.Nat.{ℕ, zero, suc, ◌+◌, ◌-◌, ◌≤◌, ◌<◌, zero-le, suc-le-suc}
use native.Mathlib.Omega.{arith}
use native.Mathlib.Nat.{not-suc-le-zero}
use native.Mathlib.Decide.{ℕ_discrete, dec_lt}
use lib.ListN.{length}
use lib.Dec.{T, eqb, eqb→eq, eqb_refl}
use Rattle.rules.specs.Lists.{below, filter, count, any, each, first, through, times, has}
use Rattle.rules.specs.Steps.{Step, step}
use Rattle.rules.specs.Edges.{next, turn, walk, add_loop}
use Rattle.rule_laws.proofs.Lists.{each_append, through_last, times_add}
use Rattle.rule_laws.proofs.Rising.{All, all_append}
use Rattle.rule_laws.proofs.Members.{any_intro, any_mem, has_mem, mem_each, mem_each_of, mem_has}
use Rattle.rule_laws.proofs.Counting.{count_append, count_zero, some_count}
use Rattle.rule_laws.proofs.Returns.{times_on}
use Rattle.rule_laws.proofs.Next.{Simple, On, next_edge, next_on, next_back, turn_back, turn_apart}
use Rattle.rule_laws.proofs.Demand.{loop_steps}
use Rattle.rule_laws.proofs.Along.{down, reverse_down, mem_down, down_mem, down_once, along_down}

-- all loops, one after the other
abbrev pub vertices : List (List ℕ) → List ℕ
vertices ls = each (λ l. l) ls

-- the loop has a vertex, and every step along it is an edge of b
abbrev pub Closes : List Step → List ℕ → Type 0
Closes b l = (0 < length l) × All (λ s. Memᴰ s b) (loop_steps l)

-- the loops when the vertices below k have been seen
pub record Good (b : List Step) (k : ℕ) (ls : List (List ℕ)) : Type 0 where
  pub closes : All (Closes b) ls
  pub onward : (u : ℕ) → Memᴰ u (vertices ls) → Memᴰ (next b u) (vertices ls)
  pub once : (u : ℕ) → count (eqb u) (vertices ls) ≤ 1
  pub full : (u : ℕ) → On b u → u < k → Memᴰ u (vertices ls)

-- one loop more
vertices_snoc : (ls : List (List ℕ)) (l : List ℕ) → vertices (ls ++ (l ∷ [])) ≡ vertices ls ++ l
vertices_snoc ls l = each_append (λ k. k) ls (l ∷ []) ∙ ap (λ k. vertices ls ++ k) (unfold each in append-nil l)

module _ (b : List Step) (simple : Simple b) where
  -- ---- the walk from v, reversed

  module _ (v : ℕ) (h : On b v) where
    -- the place after k steps
    at : ℕ → ℕ
    at k = times k (next b) v

    -- how many steps lead to the last place before it is back
    last : ℕ
    last = first (λ k. eqb (times (suc k) (next b) v) v) (below (length b))

    -- the listed loop
    walk_down : reverse (walk b v) ≡ down at (suc last)
    unfolding walk turn at last
    walk_down = reverse_down at (turn b v)

    -- one step after the last it is back
    at_back : at (suc last) ≡ v
    unfolding at last
    at_back = unfold turn in turn_back b simple v h

    -- the places differ
    at_apart : (k l : ℕ) → k < l → l < suc last → at k ≢ at l
    unfolding at last
    at_apart = unfold turn in turn_apart b simple v h

    -- each step is an edge
    at_edge : (k : ℕ) → Memᴰ (step (at k) (at (suc k))) b
    unfolding at times
    at_edge k = next_edge b simple (times k (next b) v) (times_on (next b) (On b) (next_on b simple) (next_back b simple) k v h)

    -- it begins at v
    at_zero : at 0 ≡ v
    unfolding at times
    at_zero = refl

    -- each place is the one before with `next`
    at_next : (k : ℕ) → at (suc k) ≡ next b (at k)
    unfolding at times
    at_next k = refl

    -- the walk closes
    pub walk_closes : Closes b (reverse (walk b v))
    unfolding loop_steps
    walk_closes =
        rw walk_down
        (unfold down in (
          suc-le-suc zero-le,
          along_down at (λ s. Memᴰ s b) (at last) last
              (subst (λ x. Memᴰ (step (at last) x) b) (at_back ∙ sym at_zero) (at_edge last)) (λ k l. at_edge k),
        ))

    -- the walk is closed under next
    walk_next : (u : ℕ) → Memᴰ u (down at (suc last)) → Memᴰ (next b u) (down at (suc last))
    walk_next u m = let w = down_mem at (suc last) u m in go w.0 w.2 (dec_lt (suc w.0) (suc last)) w.1
      where
        go : (j : ℕ) → u ≡ at j → Dec (suc j < suc last) → j < suc last → Memᴰ (next b u) (down at (suc last))
        go j e (yes l) i = Memᴰ.cast (ap (next b) e ∙ sym (at_next j)) (mem_down at (suc last) (suc j) l)
        go j e (no l) i =
            let q : j ≡ last = omega arith in
            Memᴰ.cast (ap (next b) (e ∙ ap at q) ∙ sym (at_next last) ∙ at_back ∙ sym at_zero) (mem_down at (suc last) 0 (omega arith))

    -- a list closed under next that holds a vertex of the walk holds v
    meets : (vs : List ℕ) → ((u : ℕ) → Memᴰ u vs → Memᴰ (next b u) vs) → (j : ℕ) → j < suc last → Memᴰ (at j) vs → Memᴰ v vs
    unfolding times
    meets vs on j l m = Memᴰ.cast (sym at_back ∙ far) (goes (suc last - j))
      where
        goes : (i : ℕ) → Memᴰ (times i (next b) (at j)) vs
        goes zero = m
        goes (suc i) = on (times i (next b) (at j)) (goes i)

        far : at (suc last) ≡ times (suc last - j) (next b) (at j)
        far = let q : suc last ≡ (suc last - j) + j = omega arith in ap at q ∙ (unfold at in times_add (next b) (suc last - j) j v)

    -- ---- one loop more

    -- a new loop: it meets no old one, as that would hold v
    more_good : (ls : List (List ℕ)) → Good b v ls → (Memᴰ v (vertices ls) → ⊥) → Good b (suc v) (ls ++ (reverse (walk b v) ∷ []))
    more_good ls good new =
        record {
          closes = all_append (Closes b) ls (reverse (walk b v) ∷ []) good.closes (walk_closes, tt);
          onward = λ u m. rw whole (onward u (Memᴰ.append_cases (vertices ls) (rw whole at m)));
          once = λ u. rw (whole, count_append (eqb u) (vertices ls) (down at (suc last))) (few u (count (eqb u) (vertices ls)) refl);
          full = λ u on l. rw whole (full u on l (ℕ_discrete u v));
        }
      where
        whole : vertices (ls ++ (reverse (walk b v) ∷ [])) ≡ vertices ls ++ down at (suc last)
        whole = vertices_snoc ls (reverse (walk b v)) ∙ ap (λ l. vertices ls ++ l) walk_down

        onward : (u : ℕ) → Memᴰ u (vertices ls) ⊎ Memᴰ u (down at (suc last)) → Memᴰ (next b u) (vertices ls ++ down at (suc last))
        onward u (inl m) = Memᴰ.append_left (down at (suc last)) (good.onward u m)
        onward u (inr m) = Memᴰ.append_right (vertices ls) (walk_next u m)

        away : (u : ℕ) → Memᴰ u (vertices ls) → Memᴰ u (down at (suc last)) → ⊥
        away u m k =
            let w = down_mem at (suc last) u k in
            new (meets (vertices ls) good.onward w.0 w.1 (Memᴰ.cast (sym w.2) m))

        few : (u n : ℕ) → count (eqb u) (vertices ls) ≡ n → count (eqb u) (vertices ls) + count (eqb u) (down at (suc last)) ≤ 1
        few u zero e = let l = down_once at (suc last) at_apart u in omega arith
        few u (suc n) e =
            let w = some_count (eqb u) (vertices ls) (rw e (suc-le-suc zero-le)) in
            let m = Memᴰ.cast (eqb→eq u w.0 w.2) w.1 in
            let z = count_zero (eqb u) (down at (suc last)) (λ x k t. away u m (Memᴰ.cast (eqb→eq u x t) k)) in
            omega (arith, good.once u)

        full : (u : ℕ) → On b u → u < suc v → Dec (u ≡ v) → Memᴰ u (vertices ls ++ down at (suc last))
        full u on l (yes e) = Memᴰ.append_right (vertices ls) (Memᴰ.cast (e ∙ sym at_zero) (mem_down at (suc last) 0 (omega arith)))
        full u on l (no ne) = Memᴰ.append_left (down at (suc last)) (good.full u on (omega arith))

  -- ---- all vertices in turn

  -- no new loop: v is in one already, or not on the boundary
  same_good : (v : ℕ) (ls : List (List ℕ)) → Good b v ls → (On b v → Memᴰ v (vertices ls)) → Good b (suc v) ls
  same_good v ls good old =
      record { closes = good.closes; onward = good.onward; once = good.once; full = λ u on l. go u on l (ℕ_discrete u v) }
    where
      go : (u : ℕ) → On b u → u < suc v → Dec (u ≡ v) → Memᴰ u (vertices ls)
      go u on l (yes e) = Memᴰ.cast e (old (subst (On b) e on))
      go u on l (no ne) = good.full u on (omega arith)

  -- the four cases of add-loop
  add_good : (v : ℕ) (ls : List (List ℕ)) → Good b v ls → Good b (suc v) (add_loop b ls v)
  unfolding add_loop
  add_good v ls good = go (any (λ s. eqb s.from v) b) (any (has v) ls) refl refl
    where
      is_in : T (any (has v) ls) → Memᴰ v (vertices ls)
      is_in t = let w = any_mem (has v) ls t in mem_each (λ l. l) w.0 v ls w.1 (has_mem v w.0 w.2)

      in_is : Memᴰ v (vertices ls) → T (any (has v) ls)
      in_is m = let w = mem_each_of (λ l. l) v ls m in any_intro (has v) w.0 ls w.1 (mem_has v w.0 w.2)

      on_is : On b v → T (any (λ s. eqb s.from v) b)
      on_is w = any_intro (λ s. eqb s.from v) w.0 b w.1 (rw w.2 (eqb_refl v))

      is_on : T (any (λ s. eqb s.from v) b) → On b v
      is_on t = let w = any_mem (λ s. eqb s.from v) b t in (w.0, w.1, eqb→eq w.0.from v w.2)

      go : (x y : Bool) → any (λ s. eqb s.from v) b ≡ x → any (has v) ls ≡ y → Good b (suc v) (cond (x && not y) (ls ++ (reverse (walk b v) ∷ [])) ls)
      go true true p q = same_good v ls good (λ w. is_in (rw q tt))
      go true false p q = more_good v (is_on (rw p tt)) ls good (λ m. subst T q (in_is m))
      go false y p q = same_good v ls good (λ w. absurd (subst T p (on_is w)))

  -- all vertices below k
  pub all_good : (k : ℕ) → Good b k (through (add_loop b) [] (below k))
  all_good zero =
      unfold through below each count filter in
      record { closes = tt; onward = λ u m. absurd (Memᴰ.not-nil m); once = λ u. zero-le; full = λ u on l. absurd (not-suc-le-zero l) }
  all_good (suc k) =
      subst (Good b (suc k)) (sym (through_last (add_loop b) [] k)) (add_good k (through (add_loop b) [] (below k)) (all_good k))
