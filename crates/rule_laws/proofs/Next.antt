-- On a simple boundary the next vertex is on it, no two vertices have the same next one, and so a walk comes back to its start. Assumes nothing.
use mathlib.Core.Path.{◌≡◌, refl, sym, ap, ◌∙◌, subst}
use mathlib.Core.Logic.{◌≢◌}
use mathlib.Core.Bool.{not, ◌&&◌, not-not}
use mathlib.Core.List.Memᴰ
use mathlib.Core.List.{List, [], ◌∷◌, map, Memᴰ}
use Prim.Native.Nat.{ℕ, ◌≤◌, ◌<◌}
use native.Mathlib.Omega.{arith}
use native.Mathlib.Decide.{dec_lt}
use lib.ListN.{length, get_or, length-map}
use lib.Dec.{T, eqb, leb, eqb→eq, eqb_refl, leb→le}
use Rattle.rules.specs.Lists.{below, filter, count, each, times}
use Rattle.rules.specs.Mesh.{Face}
use Rattle.rules.specs.Steps.{Step, step, steps, edge, users}
use Rattle.rules.specs.Refusal.{ok}
use Rattle.rules.specs.Edges.{boundary, begins, ends, no8, next, turn}
use Rattle.rule_laws.proofs.Tests.{and_elim}
use Rattle.rule_laws.proofs.Members.{all_in, mem_below, mem_each_of, mem_filter, mem_left, single}
use Rattle.rule_laws.proofs.Counting.{count_some, count_zero, only_one, some_count}
use Rattle.rule_laws.proofs.Once.{Inside, CornersBelow}
use Rattle.rule_laws.proofs.Firsts.{at_first_all}
use Rattle.rule_laws.proofs.Returns.{returns_within, returns, apart}

-- each vertex begins as many edges as it ends, and that is 0 or 1
pub record Simple (b : List Step) : Type 0 where
  pub even : (v : ℕ) → count (λ s. eqb s.from v) b ≡ count (λ s. eqb s.to v) b
  pub few : (v : ℕ) → count (λ s. eqb s.from v) b ≤ 1

-- ---- where 8 is not given the boundary is simple

-- the ends of a face's step are points
step_inside : (P : ℕ) (f : Face) (s : Step) → CornersBelow P f → Memᴰ s (steps f) → (s.from < P) × (s.to < P)
step_inside P f s h m =
    all_in (λ t. (t.from < P) × (t.to < P)) s (steps f) ((h.0, h.1), ((h.1, h.2), ((h.2, h.0), tt))) m

-- so are the ends of a boundary edge
pub boundary_inside : (P : ℕ) (fs : List Face) → Inside P fs → (s : Step) → Memᴰ s (boundary fs) → (s.from < P) × (s.to < P)
unfolding boundary
boundary_inside P fs h s m =
    let w = mem_each_of steps s fs (mem_left (λ t. eqb (length (users fs (edge t))) 1) s (each steps fs) m).0 in
    step_inside P w.0 s (all_in (CornersBelow P) w.0 fs h w.1) w.2

-- below P by refusal 8, above it there is no edge
pub no8_simple : (P : ℕ) (fs : List Face) → Inside P fs → no8 P fs ≡ ok → Simple (boundary fs)
unfolding no8 begins ends
no8_simple P fs h e = record { even = λ v. (go v (dec_lt v P)).0; few = λ v. (go v (dec_lt v P)).1 }
  where
    Fair : ℕ → Type 0
    Fair v = (begins fs v ≡ ends fs v) × (begins fs v ≤ 1)

    go : (v : ℕ) → Dec (v < P) → Fair v
    go v (yes l) =
        let t = all_in (λ u. T (not (not (eqb (begins fs u) (ends fs u) && leb (begins fs u) 1)))) v (below P) (at_first_all 8 (λ u. not (eqb (begins fs u) (ends fs u) && leb (begins fs u) 1)) (below P) e) (mem_below v P l) in
        let w = and_elim (eqb (begins fs v) (ends fs v)) (leb (begins fs v) 1) (subst T (not-not (eqb (begins fs v) (ends fs v) && leb (begins fs v) 1)) t) in
        (eqb→eq (begins fs v) (ends fs v) w.0, leb→le (begins fs v) 1 w.1)
    go v (no l) =
        let z = count_zero (λ s. eqb s.from v) (boundary fs) (λ s m t. let q = eqb→eq s.from v t in let i = (boundary_inside P fs h s m).0 in l (rw q at i)) in
        let y = count_zero (λ s. eqb s.to v) (boundary fs) (λ s m t. let q = eqb→eq s.to v t in let i = (boundary_inside P fs h s m).1 in l (rw q at i)) in
        (z ∙ sym y, rw z (omega arith))

-- ---- the next vertex

-- v begins an edge
abbrev pub On : List Step → ℕ → Type 0
On b v = (s : Step) × Memᴰ s b × (s.from ≡ v)

module _ (b : List Step) (simple : Simple b) where
  -- the test of an end, passed
  to_same : (v : ℕ) (s : Step) → s.to ≡ v → T (eqb s.to v)
  to_same v s e = rw e (eqb_refl v)

  -- an edge of the boundary goes from its beginning to the next vertex
  pub next_of : (s : Step) → Memᴰ s b → next b s.from ≡ s.to
  unfolding next count
  next_of s m = go (filter (λ t. eqb t.from s.from) b) (simple.few s.from) (mem_filter (λ t. eqb t.from s.from) s b m (eqb_refl s.from))
    where
      go : (xs : List Step) → length xs ≤ 1 → Memᴰ s xs → get_or (map (λ t. t.to) xs) 0 s.from ≡ s.to
      go [] l k = absurd (Memᴰ.not-nil k)
      go (x ∷ xs) l k = ap (λ t. t.to) (single x s (x ∷ xs) l (Memᴰ.head refl) k)

  -- two edges that end at one vertex are one
  pub same_end : (s t : Step) → Memᴰ s b → Memᴰ t b → s.to ≡ t.to → s ≡ t
  same_end s t m k e =
      only_one (λ r. eqb r.to t.to) s t b (rw (simple.even t.to) at (simple.few t.to)) m k (to_same t.to s e) (eqb_refl t.to)

  -- where an edge ends, one begins
  pub end_on : (s : Step) → Memᴰ s b → On b s.to
  end_on s m =
      let n = count_some (λ r. eqb r.to s.to) s b m (eqb_refl s.to) in
      let w = some_count (λ r. eqb r.from s.to) b (rw (simple.even s.to) n) in
      (w.0, w.1, eqb→eq w.0.from s.to w.2)

  -- the edge from v on
  pub next_edge : (v : ℕ) → On b v → Memᴰ (step v (next b v)) b
  next_edge v (s, m, e) = Memᴰ.cast (λ i. step (sym e i) ((ap (next b) (sym e) ∙ next_of s m) i)) m

  -- the next vertex is on the boundary, where the edge to it ends
  pub next_on : (v : ℕ) → On b v → On b (next b v)
  next_on v h = end_on (step v (next b v)) (next_edge v h)

  -- two vertices with the same next one are one, as their edges are
  pub next_back : (u v : ℕ) → On b u → On b v → next b u ≡ next b v → u ≡ v
  next_back u v hu hv e = ap (λ s. s.from) (same_end (step u (next b u)) (step v (next b v)) (next_edge u hu) (next_edge v hv) e)

  -- ---- the walk comes back

  -- a vertex on the boundary is among the beginnings
  begin_in : (v : ℕ) → On b v → Memᴰ v (map (λ s. s.from) b)
  begin_in v (s, m, e) = Memᴰ.cast (sym e) (Memᴰ.map (λ t. t.from) m)

  -- which are as many as the edges
  as_many : length (map (λ s. s.from) b) ≤ length b
  as_many = rw (length-map b (λ s. s.from)) (omega arith)

  module _ (v : ℕ) (h : On b v) where
    -- the walk is back within as many steps as there are edges
    pub turn_within : turn b v ≤ length b
    unfolding turn
    turn_within = returns_within (next b) (On b) next_on next_back (length b) (map (λ s. s.from) b) as_many begin_in v h

    -- to where it began
    pub turn_back : times (turn b v) (next b) v ≡ v
    unfolding turn
    turn_back = returns (next b) (On b) next_on next_back (length b) (map (λ s. s.from) b) as_many begin_in v h

    -- and meets no vertex twice before
    pub turn_apart : (k l : ℕ) → k < l → l < turn b v → times k (next b) v ≢ times l (next b) v
    unfolding turn
    turn_apart = apart (next b) (On b) next_on next_back (length b) (map (λ s. s.from) b) as_many begin_in v h
