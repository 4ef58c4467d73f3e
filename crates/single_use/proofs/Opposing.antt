-- Where no run of the undirected table is at odds, each directed edge is used at most once: two entries along one directed edge are in one run, and
-- begin at the same end. Assumes nothing.
use mathlib.Core.Path.{◌≡◌, refl, sym, ap, ◌∙◌}
use mathlib.Core.Bool.{Bool, true, false, cond}
use mathlib.Core.List.{List}
use Prim.Native.Nat.{ℕ, ◌+◌, ◌*◌, ◌/◌, ◌%◌, ◌≤◌, ◌<◌}
use native.Mathlib.Numerals.{add-one}
use native.Mathlib.Omega.{arith}
use native.Mathlib.Decide.{dec_le, dec_lt}
use lib.Dec.{eqb}
use lib.ListN.{length, get_or, length-map}
use Rattle.rows.specs.Region.{part}
use Rattle.rows.proofs.Regions.{get_d_part}
use Rattle.rules.specs.Lists.{below, count, filter, first}
use Rattle.rules.specs.Mesh.{Face, faces_of}
use Rattle.rules.specs.Steps.{opposite, edge, same}
use Rattle.rule_laws.proofs.Counting.{count_onto}
use Rattle.rule_laws.proofs.Once.{Once, same_is}
use Rattle.table.specs.Entries.{step_at, ids_of, keys_of}
use Rattle.table.specs.Table.{run_of}
use Rattle.table.proofs.Ids.{three_faces, step_flat, walkers_ids}
use Rattle.table.proofs.Places.{placed, run_in, run_number}
use Rattle.table.proofs.Theorems.{begins_is}
use Rattle.orienting.specs.Reaching.{turned_by}
use Rattle.orienting.proofs.Turns.{edge_opposite, length_turned}
use Rattle.orienting.proofs.Reached.{not_both}
use Rattle.single_use.specs.Single.{begin_of, SingleAsks, Opposed, from, entry}
use Rattle.single_use.proofs.Standing.{mirror, mirror_face, mirror_twice, before, step_turned}

-- the states of the faces
abbrev states_of : List ℕ → List ℕ → ℕ → List ℕ
states_of w xs states = part w states (length xs / 3)

-- the faces as they stand
abbrev stood : List ℕ → List ℕ → ℕ → List Face
stood w xs states = turned_by (states_of w xs states) (faces_of xs)

-- ---- an entry of the faces as they stand, by the entry as it was

module _ (w xs : List ℕ) (states : ℕ) (whole : length xs % 3 ≡ 0) (id : ℕ) (h : id < length xs) where
  -- the state of its face
  state_at : get_or (states_of w xs states) (id / 3) 0 ≡ get_or w (states + id / 3) 0
  state_at = get_d_part w states (length xs / 3) (id / 3) (omega arith)

  -- its step
  step_is : step_at (stood w xs states) id ≡ cond (eqb (get_or (states_of w xs states) (id / 3) 0) 2) (opposite (step_at (faces_of xs) (mirror id))) (step_at (faces_of xs) id)
  step_is = step_turned (states_of w xs states) (faces_of xs) id (omega (arith, three_faces xs whole))

  -- the entry counted from the last is one too
  mirror_in : mirror id < length xs
  mirror_in = omega (arith, mirror_face id)

  -- there is such an entry
  was_in : before (states_of w xs states) id < length xs
  was_in = go (eqb (get_or (states_of w xs states) (id / 3) 0) 2)
    where
      go : (b : Bool) → cond b (mirror id) id < length xs
      go true = mirror_in
      go false = h

  -- it was along the same edge
  was_along : edge (step_at (faces_of xs) (before (states_of w xs states) id)) ≡ edge (step_at (stood w xs states) id)
  was_along = rw step_is (go (eqb (get_or (states_of w xs states) (id / 3) 0) 2))
    where
      go : (b : Bool) → edge (step_at (faces_of xs) (cond b (mirror id) id)) ≡ edge (cond b (opposite (step_at (faces_of xs) (mirror id))) (step_at (faces_of xs) id))
      go true = sym (edge_opposite (step_at (faces_of xs) (mirror id)))
      go false = refl

  -- and its step begins where the scan says
  was_begun : begin_of w xs states (before (states_of w xs states) id) ≡ (step_at (stood w xs states) id).from
  unfolding opposite
  was_begun = rw step_is (go (eqb (get_or (states_of w xs states) (id / 3) 0) 2) refl)
    where
      go : (b : Bool) → eqb (get_or (states_of w xs states) (id / 3) 0) 2 ≡ b → begin_of w xs states (cond b (mirror id) id) ≡ (cond b (opposite (step_at (faces_of xs) (mirror id))) (step_at (faces_of xs) id)).from
      go true e =
          let f : get_or w (states + mirror id / 3) 0 ≡ get_or (states_of w xs states) (id / 3) 0 = ap (λ k. get_or w (states + k) 0) (mirror_face id) ∙ sym state_at in
          rw (f, e, step_flat xs whole (mirror id) mirror_in)
      go false e = rw (← state_at, e, step_flat xs whole id h)

-- different entries were different
was_other : (ss : List ℕ) (a b : ℕ) → before ss a ≡ before ss b → a ≡ b
was_other ss a b = go (eqb (get_or ss (a / 3) 0) 2) (eqb (get_or ss (b / 3) 0) 2) refl refl
  where
    go : (x y : Bool) → eqb (get_or ss (a / 3) 0) 2 ≡ x → eqb (get_or ss (b / 3) 0) 2 ≡ y → cond x (mirror a) a ≡ cond y (mirror b) b → a ≡ b
    go true true u v e = sym (mirror_twice a) ∙ ap mirror e ∙ mirror_twice b
    go true false u v e = let k : b / 3 ≡ a / 3 = omega (arith, mirror_face a) in absurd (not_both u (rw k at v))
    go false true u v e = let k : b / 3 ≡ a / 3 = omega (arith, mirror_face b) in absurd (not_both (rw k at v) u)
    go false false u v e = e

-- of at most two places from s on, two different ones with equal values are at odds
clash :
    (f : ℕ → ℕ) (s t j k : ℕ) → s ≤ j → j < t → s ≤ k → k < t → (j ≡ k → ⊥) → t ≤ s + 2 → (t ≡ s + 2 → f s ≡ f (s + 1) → ⊥) → f j ≡ f k → ⊥
clash f s t j k sj jt sk kt ne few differ e = go (dec_lt j k)
  where
    go : Dec (j < k) → ⊥
    go (yes l) = let x : s ≡ j = omega arith in let y : k ≡ s + 1 = omega arith in differ (omega arith) (ap f x ∙ e ∙ ap f y)
    go (no l) = let x : s ≡ k = omega arith in let y : j ≡ s + 1 = omega arith in differ (omega arith) (ap f x ∙ sym e ∙ ap f y)

module _ {w xs : List ℕ} {states at m : ℕ} (q : SingleAsks w xs states at m) (all : (r : ℕ) → r < m → Opposed w xs states at r) where
  -- the entry as it was
  abbrev was : ℕ → ℕ
  was id = before (states_of w xs states) id

  -- a place of an entry, and its run
  record Place (id : ℕ) : Type 0 where
    place : ℕ
    run : ℕ
    here : run < m
    holds : entry w xs at place ≡ id
    after : from w xs at run ≤ place
    before : place < from w xs at (run + 1)
    number : run ≡ run_of xs q.points false id

  -- each entry has one
  place_of : (id : ℕ) → id < length xs → Place id
  place_of id h =
      let t = q.tabled in
      let p = placed t.asks t.table id h in
      let r = run_in t.asks t.table p.0 p.1 in
      let k : r.0 < m = omega (arith, t.count, r.1) in
      record {
        place = p.0;
        run = r.0;
        here = k;
        holds = p.2;
        after = rw (begins_is t r.0 (omega arith)) r.2;
        before = rw (begins_is t (r.0 + 1) (omega arith), add-one r.0) r.3;
        number = sym (run_number t.asks t.table r.0 p.0 r.1 r.2 r.3) ∙ ap (run_of xs q.points false) p.2;
      }

  -- two entries along one directed edge are one
  one_entry : (a b : ℕ) → a < length xs → b < length xs → step_at (stood w xs states) a ≡ step_at (stood w xs states) b → (a ≡ b → ⊥) → ⊥
  one_entry a b ha hb e ne =
      let whole = q.tabled.asks.whole in
      let x = place_of (was a) (was_in w xs states whole a ha) in
      let y = place_of (was b) (was_in w xs states whole b hb) in
      let along : edge (step_at (faces_of xs) (was a)) ≡ edge (step_at (faces_of xs) (was b)) = was_along w xs states whole a ha ∙ ap edge e ∙ sym (was_along w xs states whole b hb) in
      let r : y.run ≡ x.run = y.number ∙ sym (ap (λ s. first (same s) (keys_of false q.points (faces_of xs))) along) ∙ sym x.number in
      let o = all x.run x.here in
      clash (λ j. begin_of w xs states (entry w xs at j)) (from w xs at x.run) (from w xs at (x.run + 1)) x.place y.place x.after x.before (rw r at y.after) (rw r at y.before)
      (λ s. ne (was_other (states_of w xs states) a b (sym x.holds ∙ ap (entry w xs at) s ∙ y.holds)))
      o.few o.differ
      (ap (begin_of w xs states) x.holds ∙ was_begun w xs states whole a ha ∙ ap (λ s. s.from) e ∙ sym (was_begun w xs states whole b hb) ∙ sym (ap (begin_of w xs states) y.holds))

  -- so each directed edge is used at most once
  pub once : Once (stood w xs states)
  unfolding ids_of
  once d =
      rw (walkers_ids (stood w xs states) d, length-map (filter along (below (3 * length (stood w xs states)))) (λ id. id / 3))
      (unfold count in go (dec_le (count along (below (3 * length (stood w xs states)))) 1))
    where
      along : ℕ → Bool
      along id = same d (step_at (stood w xs states) id)

      long : 3 * length (stood w xs states) ≡ length xs
      long = ap (λ k. 3 * k) (length_turned (states_of w xs states) (faces_of xs)) ∙ three_faces xs q.tabled.asks.whole

      go : Dec (count along (below (3 * length (stood w xs states))) ≤ 1) → count along (below (3 * length (stood w xs states))) ≤ 1
      go (yes l) = l
      go (no l) =
          let a = count_onto along (3 * length (stood w xs states)) 0 (omega arith) in
          let b = count_onto along (3 * length (stood w xs states)) 1 (omega arith) in
          absurd (one_entry a.0 b.0 (omega (arith, a.1, long)) (omega (arith, b.1, long))
          (sym (same_is d (step_at (stood w xs states) a.0) a.2) ∙ same_is d (step_at (stood w xs states) b.0) b.2)
          (λ s. absurd (omega (arith, ap (λ k. count along (below k)) s, a.3, b.3))))
