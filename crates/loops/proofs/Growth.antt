-- The rules' loops, when one vertex more has been seen: what a walk from it passes, which loop is added, and how many vertices there are. Assumes nothing.
use mathlib.Core.Path.{◌≡◌, refl, sym, ap, ap₂, ◌∙◌, subst}
use mathlib.Core.Logic.{◌≢◌}
use mathlib.Core.Bool.{Bool, true, false, not, ◌&&◌, ◌||◌, cond}
use mathlib.Core.List.Memᴰ
use mathlib.Core.List.{List, [], ◌∷◌, ◌++◌, map, reverse, append-nil, map-append, Memᴰ}
use Prim.Native.Nat.{ℕ, suc, ◌+◌, ◌≤◌, ◌<◌, zero-le}
use native.Mathlib.Omega.{arith}
use lib.Dec.{T, eqb, eqb→eq, eqb_refl}
use lib.Ieee.Bits.{is_true}
use lib.ListN.{length, get_or, take, length-append, length-map}
use lib.Seq.{take-append-le, take-length}
use Rattle.rules.specs.Lists.{below, filter, count, any, each, times, has}
use Rattle.rules.specs.Steps.{Step}
use Rattle.rules.specs.Edges.{next, turn, walk, add_loop}
use Rattle.rule_laws.proofs.Lists.{each_append, through_last}
use Rattle.rule_laws.proofs.Tests.{and_elim}
use Rattle.rule_laws.proofs.Rising.{All, all_imp, all_map, map_same, below_all}
use Rattle.rule_laws.proofs.Members.{any_intro, any_mem, has_mem, mem_each, mem_at, all_in, none_filter}
use Rattle.rule_laws.proofs.Counting.{count_append, count_some, count_two}
use Rattle.rule_laws.proofs.Returns.{times_on}
use Rattle.rule_laws.proofs.Pigeons.{fewer}
use Rattle.rule_laws.proofs.Along.{loop_steps, down, reverse_down, mem_down}
use Rattle.rule_laws.proofs.Next.{Simple, On, next_on, next_back, turn_within, turn_back, turn_apart}
use Rattle.rule_laws.proofs.Growing.{vertices, Closes, all_good}
use Rattle.rule_laws.proofs.Loops.{edges_of, to_loops}
use Rattle.loops.specs.Loops.{onward, left, loops_to, ends_of}

-- ---- lists of lists, one longer

-- their elements
pub vertices_more : (ls : List (List ℕ)) (l : List ℕ) → vertices (ls ++ (l ∷ [])) ≡ vertices ls ++ l
vertices_more ls l = each_append (λ k. k) ls (l ∷ []) ∙ ap (λ k. vertices ls ++ k) (unfold each in append-nil l)

-- a test of some of them
any_more : {A : Type 0} (p : A → Bool) (xs : List A) (x : A) → any p (xs ++ (x ∷ [])) ≡ any p xs || p x
unfolding any
any_more p [] x = go (p x)
  where
    go : (b : Bool) → b || false ≡ b
    go true = refl
    go false = refl
any_more p (y ∷ xs) x = go (p y) (any_more p xs x)
  where
    go : (b : Bool) → any p (xs ++ (x ∷ [])) ≡ any p xs || p x → b || any p (xs ++ (x ∷ [])) ≡ (b || any p xs) || p x
    go true e = refl
    go false e = e

-- how many lists there are
length_more : {A : Type 0} (xs : List A) (x : A) → length (xs ++ (x ∷ [])) ≡ suc (length xs)
length_more xs x = let e = length-append xs (x ∷ []) in omega arith

-- their running totals
pub ends_more : (ls : List (List ℕ)) (l : List ℕ) → ends_of (ls ++ (l ∷ [])) ≡ ends_of ls ++ ((length (vertices ls) + length l) ∷ [])
unfolding below
ends_more ls l =
    ap (λ n. map total (below n)) (length_more ls l)
    ∙ map-append total (below (length ls)) (length ls ∷ [])
    ∙ ap₂ (λ u v. u ++ (v ∷ []))
    (map_same total (λ k. length (vertices (take (suc k) ls))) (below (length ls))
    (all_imp (λ k. k < length ls) (λ k. total k ≡ length (vertices (take (suc k) ls))) (λ k h. ap (λ x. length (vertices x)) (take-append-le (suc k) ls (l ∷ []) h)) (below (length ls)) (below_all (length ls))))
    (ap (λ n. length (vertices (take n (ls ++ (l ∷ []))))) (sym (length_more ls l)) ∙ ap (λ x. length (vertices x)) (take-length (ls ++ (l ∷ []))) ∙ ap length (vertices_more ls l) ∙ length-append (vertices ls) l)
  where
    total : ℕ → ℕ
    total k = length (vertices (take (suc k) (ls ++ (l ∷ []))))

-- ---- the test whether v starts a loop

-- v is on the boundary, and in no loop yet
abbrev pub starts : List Step → List (List ℕ) → ℕ → Bool
starts b ls v = any (λ s. eqb s.from v) b && not (any (has v) ls)

-- it is on the boundary exactly if an edge begins there
on_is : (b : List Step) (v : ℕ) → On b v → T (any (λ s. eqb s.from v) b)
on_is b v w = any_intro (λ s. eqb s.from v) w.0 b w.1 (rw w.2 (eqb_refl v))

-- and the other way
is_on : (b : List Step) (v : ℕ) → T (any (λ s. eqb s.from v) b) → On b v
is_on b v t = let w = any_mem (λ s. eqb s.from v) b t in (w.0, w.1, eqb→eq w.0.from v w.2)

-- before any loop, the row is where the boundary goes on
pub left_none : (P : ℕ) (b : List Step) (x : ℕ) → onward P b x ≡ left P b [] x
unfolding any next count
left_none P b x = go (any (λ s. eqb s.from x) b) refl
  where
    first : (xs : List ℕ) → 0 < length xs → get_or xs 0 P ≡ get_or xs 0 x
    first [] h = absurd (omega arith)
    first (y ∷ ys) h = refl

    go : (t : Bool) → any (λ s. eqb s.from x) b ≡ t → onward P b x ≡ cond (t && true) (next b x) P
    go false e = ap (λ l. get_or (map (λ s. s.to) l) 0 P) (none_filter (λ s. eqb s.from x) b e)
    go true e =
        let w = is_on b x (subst T (sym e) tt) in
        let n : 0 < length (filter (λ s. eqb s.from x) b) = count_some (λ s. eqb s.from x) w.0 b w.1 (rw w.2 (eqb_refl x)) in
        first (map (λ s. s.to) (filter (λ s. eqb s.from x) b)) (rw (length-map (filter (λ s. eqb s.from x) b) (λ s. s.to)) n)

-- once the vertices of l lead nowhere, the row is that of the loops with l
pub left_more : (P : ℕ) (b : List Step) (ls : List (List ℕ)) (l : List ℕ) (x : ℕ) → cond (has x l) P (left P b ls x) ≡ left P b (ls ++ (l ∷ [])) x
left_more P b ls l x = go (has x l) (any (λ s. eqb s.from x) b) (any (has x) ls) ∙ ap (λ t. cond (any (λ s. eqb s.from x) b && not t) (next b x) P) (sym (any_more (has x) ls l))
  where
    go : (h o a : Bool) → cond h P (cond (o && not a) (next b x) P) ≡ cond (o && not (a || h)) (next b x) P
    go true true true = refl
    go true true false = refl
    go true false a = refl
    go false true true = refl
    go false true false = refl
    go false false a = refl

-- where v starts no loop, the loops are the same
pub same_loops : (b : List Step) (v : ℕ) → starts b (loops_to b v) v ≡ false → loops_to b (suc v) ≡ loops_to b v
unfolding add_loop
same_loops b v e =
    through_last (add_loop b) [] v ∙ ap (λ t. cond t (loops_to b v ++ (reverse (walk b v) ∷ [])) (loops_to b v)) e

module _ (b : List Step) (simple : Simple b) where
  -- ---- how many vertices are in loops

  -- an edge ends at each of them
  vertex_in : (v u : ℕ) → Memᴰ u (vertices (loops_to b v)) → Memᴰ u (map (λ s. s.to) b)
  vertex_in v u m =
      let ls = loops_to b v in
      all_in (λ x. Memᴰ x (map (λ s. s.to) b)) u (vertices ls)
      (subst (All (λ x. Memᴰ x (map (λ s. s.to) b))) (to_loops ls)
      (all_map (λ x. Memᴰ x (map (λ s. s.to) b)) (λ s. s.to) (each loop_steps ls)
      (all_imp (λ t. Memᴰ t b) (λ t. Memᴰ t.to (map (λ s. s.to) b)) (λ t k. Memᴰ.map (λ s. s.to) k) (each loop_steps ls) (edges_of b ls (all_good b simple v).closes))))
      m

  -- no more than edges
  pub vertices_fit : (v : ℕ) → length (vertices (loops_to b v)) ≤ length b
  vertices_fit v =
      rw (length-map b (λ s. s.to)) at
      (fewer (λ k. get_or vs k 0) (length vs) (map (λ s. s.to) b) (λ k h. vertex_in v (get_or vs k 0) (mem_at vs k 0 h)) apart)
    where
      vs : List ℕ
      vs = vertices (loops_to b v)

      apart : (k l : ℕ) → k < l → l < length vs → get_or vs k 0 ≢ get_or vs l 0
      apart k l h i e =
          let c = count_two (eqb (get_or vs k 0)) vs 0 k l h i (eqb_refl (get_or vs k 0)) (subst (λ x. T (eqb (get_or vs k 0) x)) e (eqb_refl (get_or vs k 0))) in
          omega (arith, (all_good b simple v).once (get_or vs k 0))

  -- no more loops than vertices, as none is empty
  pub loops_fit : (v : ℕ) → length (loops_to b v) ≤ length (vertices (loops_to b v))
  unfolding each
  loops_fit v = go (loops_to b v) (all_good b simple v).closes
    where
      go : (ls : List (List ℕ)) → All (Closes b) ls → length ls ≤ length (vertices ls)
      go [] c = zero-le
      go (l ∷ ls) c = omega (arith, c.0.0, go ls c.1, length-append l (vertices ls))

  -- ---- the loop that v starts

  module _ (v : ℕ) (e : starts b (loops_to b v) v ≡ true) where
    -- v is on the boundary
    pub v_on : On b v
    v_on = is_on b v (and_elim (any (λ s. eqb s.from v) b) (not (any (has v) (loops_to b v))) (subst T (sym e) tt)).0

    -- the vertex after k steps
    pub at : ℕ → ℕ
    at k = times k (next b) v

    -- the loop
    abbrev pub new-loop : List ℕ
    new-loop = down at (turn b v)

    -- is added
    pub more_loops : loops_to b (suc v) ≡ loops_to b v ++ (new-loop ∷ [])
    unfolding add_loop walk at
    more_loops =
        through_last (add_loop b) [] v
        ∙ ap (λ t. cond t (loops_to b v ++ (reverse (walk b v) ∷ [])) (loops_to b v)) e
        ∙ ap (λ l. loops_to b v ++ (l ∷ [])) (reverse_down at (turn b v))

    -- each of its vertices is on the boundary
    pub at_on : (k : ℕ) → On b (at k)
    unfolding at
    at_on k = times_on (next b) (On b) (next_on b simple) (next_back b simple) k v v_on

    -- and in no loop so far
    at_new : (k : ℕ) → k < turn b v → any (has (at k)) (loops_to b v) ≡ false
    at_new k h = go (any (has (at k)) (loops_to b v)) refl
      where
        once : count (eqb (at k)) (vertices (loops_to b v)) + count (eqb (at k)) new-loop ≤ 1
        once =
            rw (count_append (eqb (at k)) (vertices (loops_to b v)) new-loop) at
            (rw (vertices_more (loops_to b v) new-loop) at (rw more_loops at ((all_good b simple (suc v)).once (at k))))

        here : 0 < count (eqb (at k)) new-loop
        here = count_some (eqb (at k)) (at k) new-loop (mem_down at (turn b v) k h) (eqb_refl (at k))

        go : (t : Bool) → any (has (at k)) (loops_to b v) ≡ t → t ≡ false
        go false q = refl
        go true q =
            let w = any_mem (has (at k)) (loops_to b v) (subst T (sym q) tt) in
            let m = mem_each (λ l. l) w.0 (at k) (loops_to b v) w.1 (has_mem (at k) w.0 w.2) in
            absurd (omega (arith, once, here, count_some (eqb (at k)) (at k) (vertices (loops_to b v)) m (eqb_refl (at k))))

    -- so the row leads from it to the next
    pub at_leads : (P k : ℕ) → k < turn b v → left P b (loops_to b v) (at k) ≡ at (suc k)
    unfolding at times
    at_leads P k h =
        ap₂ (λ o a. cond (o && not a) (next b (at k)) P) (is_true (any (λ s. eqb s.from (at k)) b) (on_is b (at k) (at_on k))) (at_new k h)

    -- the walk begins at v
    pub at_zero : at 0 ≡ v
    unfolding at times
    at_zero = refl

    -- comes back to it
    pub at_back : at (turn b v) ≡ v
    unfolding at
    at_back = turn_back b simple v v_on

    -- and meets no vertex twice before
    pub at_differ : (k l : ℕ) → k < l → l < turn b v → at k ≢ at l
    unfolding at
    at_differ = turn_apart b simple v v_on

    -- within as many steps as there are edges
    pub at_within : turn b v ≤ length b
    at_within = turn_within b simple v v_on

    -- and at least one
    pub at_least : 0 < turn b v
    unfolding turn
    at_least = omega arith
