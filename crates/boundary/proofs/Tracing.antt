-- The loop over all runs: the rows say what is so of the boundary edges along the edges before r. Assumes nothing.
use mathlib.Core.Path.{◌≡◌, refl, sym, ap, ◌∙◌, subst}
use mathlib.Core.Bool.{false}
use mathlib.Core.List.{List, [], ◌∷◌, ◌++◌, append-nil, Memᴰ}
use Prim.Native.Nat.{ℕ, suc, ◌+◌, ◌-◌, ◌*◌, ◌^◌, ◌≤◌, ◌<◌}
use native.Mathlib.Omega.{arith}
use native.Mathlib.Numerals.{add-one}
use borrow.Author.Tests.{eq-eqb}
use lib.ListN.{length, get_or, take, length-append}
use lib.Seq.{take-suc, take_all}
use lib.Dec.{T, eqb, eqb→eq}
use Rattle.rows.specs.Region.{Only}
use Rattle.rows.proofs.Regions.{only_none, only_both}
use Rattle.rules.specs.Lists.{filter, count, each}
use Rattle.rules.specs.Mesh.{Face, faces_of}
use Rattle.rules.specs.Steps.{Step, step, steps, edge, same, users, edges}
use Rattle.rules.specs.Edges.{boundary}
use Rattle.rule_laws.proofs.Lists.{length_each, each_append}
use Rattle.rule_laws.proofs.Members.{in_all, mem_at, mem_index, mem_filter, mem_left}
use Rattle.rule_laws.proofs.Counting.{count_parts, count_some, count_zero, filter_le}
use Rattle.rule_laws.proofs.Once.{same_is}
use Rattle.rule_laws.proofs.TwoUsers.{eq_same}
use Rattle.rule_laws.proofs.InOut.{users_count}
use Rattle.table.specs.Entries.{next, step_at}
use Rattle.table.specs.Table.{Tabled}
use Rattle.table.proofs.Ids.{edges_keys, step_flat, next_in, three_faces}
use Rattle.table.proofs.Rows.{Rise, keys_rise}
use Rattle.table.proofs.Places.{none, tabled_kept}
use Rattle.table.proofs.Handing.{AtRun, at_run}
use Rattle.table.proofs.Theorems.{edge_count}
use Rattle.boundary.specs.Rows.{alone, boundary_to, Counted, AddAsks, AddGives, TraceAsks, TraceGives}
use Rattle.boundary.proofs.Alike.{empty, only, Alike, counted_alike}
use Rattle.boundary.proofs.Grouping.{grouped, rise_once}
use Rattle.boundary.proofs.Uses.{at_entry, first_along, often_is}

-- ---- the boundary edges along one edge

module _ (fs : List Face) (e : Step) where
  -- they are at most its users
  along_few : length (filter (λ s. same e (edge s)) (boundary fs)) ≤ length (users fs e)
  unfolding boundary count
  along_few = omega (arith, count_parts (alone fs) (λ s. same e (edge s)) (each steps fs), users_count fs e)

  -- where it occurs once, its one step
  one_along : (s : Step) → Memᴰ s (each steps fs) → edge s ≡ e → length (users fs e) ≡ 1 → filter (λ t. same e (edge t)) (boundary fs) ≡ s ∷ []
  unfolding boundary
  one_along s m k u =
      let c : T (alone fs s) = rw k (subst T (sym (eq-eqb (length (users fs e)) 1 u)) tt) in
      let b = mem_filter (alone fs) s (each steps fs) m c in
      only s (filter (λ t. same e (edge t)) (boundary fs)) (mem_filter (λ t. same e (edge t)) s (boundary fs) b (rw k (eq_same e e refl refl)))
      (omega (arith, along_few))

  -- where it does not, there are none
  none_along : (length (users fs e) ≡ 1 → ⊥) → filter (λ t. same e (edge t)) (boundary fs) ≡ []
  unfolding boundary count
  none_along u =
      empty (filter (λ t. same e (edge t)) (boundary fs))
      (count_zero (λ t. same e (edge t)) (boundary fs)
      (λ s m k.
      let a = (mem_left (alone fs) s (each steps fs) m).1 in
      u (ap (λ d. length (users fs d)) (same_is e (edge s) k) ∙ eqb→eq (length (users fs (edge s))) 1 a)))

-- ---- the boundary edges along the first edges

module _ (P : ℕ) (fs : List Face) where
  -- along one edge more
  to_more : (r : ℕ) → r < length (edges P fs) → boundary_to P fs (suc r) ≡ boundary_to P fs r ++ filter (λ s. same (get_or (edges P fs) r none) (edge s)) (boundary fs)
  unfolding boundary_to each
  to_more r h =
      let f : Step → List Step = λ e. filter (λ s. same e (edge s)) (boundary fs) in
      ap (each f) (take-suc (edges P fs) r none h)
      ∙ each_append f (take r (edges P fs)) (get_or (edges P fs) r none ∷ [])
      ∙ ap (λ l. each f (take r (edges P fs)) ++ l) (append-nil (f (get_or (edges P fs) r none)))

  -- before the first edge there is none
  to_none : boundary_to P fs 0 ≡ []
  unfolding boundary_to each
  to_none = refl

-- after the last there are all, in another order: each is along one edge
module _ {w xs : List ℕ} {P at m : ℕ} (t : Tabled w xs P false at m) where
  -- as many steps as entries
  long_steps : length (each steps (faces_of xs)) ≡ length xs
  long_steps = length_each 3 steps (λ f. refl) (faces_of xs) ∙ three_faces xs t.asks.whole

  -- the step of an entry is one of the steps
  step_in : (i : ℕ) → i < length xs → Memᴰ (step_at (faces_of xs) i) (each steps (faces_of xs))
  unfolding step_at
  step_in i h = mem_at (each steps (faces_of xs)) i none (omega (arith, long_steps))

  -- a step is along one of the edges
  along_one : (s : Step) → Memᴰ s (each steps (faces_of xs)) → count (λ e. same e (edge s)) (edges P (faces_of xs)) ≡ 1
  along_one s k =
      let i = mem_index none s (each steps (faces_of xs)) k in
      let a = at_entry t i.0 (omega (arith, i.1, long_steps)) in
      let r = get_or w (at + 2 * length xs + i.0) 0 in
      let e : get_or (edges P (faces_of xs)) r none ≡ edge s = a.key ∙ ap edge (unfold step_at in i.2) in
      let c = count_some (λ e. same e (edge s)) (get_or (edges P (faces_of xs)) r none) (edges P (faces_of xs)) (mem_at (edges P (faces_of xs)) r none (omega (arith, a.here, edge_count t))) (rw e (eq_same (edge s) (edge s) refl refl)) in
      omega (arith, rise_once (edge s) (edges P (faces_of xs)) (subst Rise (edges_keys P (faces_of xs)) (keys_rise false P (faces_of xs))))

  -- so are all boundary edges
  to_all : Alike (boundary_to P (faces_of xs) m) (boundary (faces_of xs))
  unfolding boundary_to
  to_all =
      let b = boundary (faces_of xs) in
      let es = edges P (faces_of xs) in
      record {
        counts = λ p.
            ap (λ l. count p (each (λ e. filter (λ s. same e (edge s)) b) l)) (take_all m es (omega (arith, edge_count t)))
            ∙ grouped (λ e s. same e (edge s)) p b es
            (in_all (λ s. count (λ e. same e (edge s)) es ≡ 1) b (λ s k. along_one s (unfold boundary in (mem_left (alone (faces_of xs)) s (each steps (faces_of xs)) k).0)));
      }

-- ---- the loop

-- what stands before run r: the rows, and that there are few edges so far
pub record Inv (w₀ xs : List ℕ) (P m row : ℕ) (w : List ℕ) (r : ℕ) : Type 0 where
  pub at_most : r ≤ m
  pub only : Only row (3 * P) w₀ w
  pub few : length (boundary_to P (faces_of xs) r) ≤ r
  pub counted : Counted P row (boundary_to P (faces_of xs) r) w

-- before the first run
pub begin : {w xs : List ℕ} {P at m row : ℕ} → TraceAsks w xs P at m row → Inv w xs P m row w 0
begin {w} {xs} {P} {at} {m} {row} p =
    record {
      at_most = omega arith;
      only = only_none row (3 * P) w;
      few = rw (to_none P (faces_of xs)) (omega arith);
      counted = rw (to_none P (faces_of xs)) p.counted;
    }

-- what a boundary edge needs: both its corners are there
pub record Turn (xs : List ℕ) (i j : ℕ) : Type 0 where
  pub few : length xs < 2 ^ 32
  pub here : i < length xs
  pub after : j < length xs

module _ {w₀ xs : List ℕ} {P at m row : ℕ} {w : List ℕ} {r : ℕ} (p : TraceAsks w₀ xs P at m row) (v : Inv w₀ xs P m row w r) where
  -- the table stands still
  still : Tabled w xs P false at m
  still = tabled_kept v.only p.apart p.tabled

  -- after the last run
  pub done : m ≤ r → TraceGives w₀ xs P at row w
  done h =
      let e : r ≡ m = omega (arith, v.at_most) in
      record { only = v.only; counted = counted_alike (to_all still) (rw e at v.counted) }

  module _ (h : r < m) where
    -- the bounds of run r
    pub bounds : AtRun w xs at m r
    bounds = at_run still r h

    -- edge r
    abbrev key : Step
    key = get_or (edges P (faces_of xs)) r none

    -- the boundary edges along one edge more
    more : boundary_to P (faces_of xs) (suc r) ≡ boundary_to P (faces_of xs) r ++ filter (λ s. same key (edge s)) (boundary (faces_of xs))
    more = to_more P (faces_of xs) r (omega (arith, edge_count still))

    -- the edge of a run that has more entries than one
    pub skips : (get_or w (at + 4 * length xs + r + 1) 0 - get_or w (at + 4 * length xs + r) 0 ≡ 1 → ⊥) → Inv w₀ xs P m row w (r + 1)
    skips n =
        let e : boundary_to P (faces_of xs) (suc r) ≡ boundary_to P (faces_of xs) r =
        more ∙ ap (λ l. boundary_to P (faces_of xs) r ++ l) (none_along (faces_of xs) key (λ u. n (sym (often_is still r h) ∙ u)))
        ∙ append-nil (boundary_to P (faces_of xs) r) in
        record {
          at_most = omega arith;
          only = v.only;
          few = rw (add-one r, e) (omega (arith, v.few));
          counted = rw (add-one r, e) v.counted;
        }

    -- the first entry of run r
    abbrev first : ℕ
    first = get_or w (at + 3 * length xs + get_or w (at + 4 * length xs + r) 0) 0

    module _ {j : ℕ} (f : j ≡ next first) where
      -- the bounds
      pub turn : Turn xs first j
      turn = let b = bounds in record { few = b.few; here = b.id; after = rw f (next_in (length xs) first p.tabled.asks.whole b.id) }

      -- a boundary edge is counted, and there is room
      pub add_asks : AddAsks w P row (get_or xs first 0) (get_or xs j 0)
      unfolding count
      add_asks =
          let t = turn in
          let k = bounds in
          let a = p.tabled.asks.inside first t.here in
          let b = p.tabled.asks.inside j t.after in
          let l = v.only.long in
          let n = v.few in
          record {
            points = p.points;
            fit = omega (arith, p.fit);
            from = a;
            to = b;
            more_begin = omega (arith, v.counted.begins.each (get_or xs first 0) a, filter_le (λ s. eqb s.from (get_or xs first 0)) (boundary_to P (faces_of xs) r));
            more_end = omega (arith, v.counted.ends.each (get_or xs j 0) b, filter_le (λ s. eqb s.to (get_or xs j 0)) (boundary_to P (faces_of xs) r));
          }

      -- and the rows say what is so of it too
      pub counts : get_or w (at + 4 * length xs + r + 1) 0 - get_or w (at + 4 * length xs + r) 0 ≡ 1 → {w' : List ℕ} → AddGives w P row (get_or xs first 0) (get_or xs j 0) w' → Inv w₀ xs P m row w' (r + 1)
      counts u {w'} g =
          let s : step_at (faces_of xs) first ≡ step (get_or xs first 0) (get_or xs j 0) =
          step_flat xs p.tabled.asks.whole first turn.here ∙ ap (λ k. step (get_or xs first 0) (get_or xs k 0)) (sym f) in
          let e : boundary_to P (faces_of xs) (suc r) ≡ boundary_to P (faces_of xs) r ++ (step (get_or xs first 0) (get_or xs j 0) ∷ []) =
          more
          ∙ ap (λ l. boundary_to P (faces_of xs) r ++ l)
          (one_along (faces_of xs) key (step_at (faces_of xs) first) (step_in still first turn.here) (first_along still r h) (often_is still r h ∙ u)
          ∙ ap (λ z. z ∷ []) s) in
          record {
            at_most = omega arith;
            only = only_both v.only g.only;
            few = rw (add-one r, e) (omega (arith, v.few, length-append (boundary_to P (faces_of xs) r) (step (get_or xs first 0) (get_or xs j 0) ∷ [])));
            counted = rw (add-one r, e) (g.counted (boundary_to P (faces_of xs) r) v.counted);
          }
