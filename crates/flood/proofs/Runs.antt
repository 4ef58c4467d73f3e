-- What a step that writes labels only leaves as it was, and when two things are joined through runs. Assumes nothing.
use mathlib.Core.Path.{◌≡◌, refl, sym, ap, ◌∙◌, subst}
use mathlib.Core.Bool.{◌&&◌}
use mathlib.Core.List.Memᴰ
use mathlib.Core.List.{List, ◌∷◌, map, Memᴰ}
use Prim.Native.Nat.{ℕ, ◌+◌, ◌-◌, ◌≤◌, ◌<◌}
use native.Mathlib.Numerals.{add-one}
use native.Mathlib.Omega.{arith}
use native.Mathlib.Decide.{dec_lt, le_ind}
use lib.Dec.{T}
use lib.Ieee.Fits.{and_i}
use lib.ListN.{length, get_or}
use Rattle.rows.specs.Region.{part, Apart, Apart.before, Apart.after, Only}
use Rattle.rows.proofs.Regions.{kept, kept_at, length_part, get_d_part}
use Rattle.rules.specs.Lists.{below, has}
use Rattle.rule_laws.proofs.Tests.{and_elim}
use Rattle.rule_laws.proofs.Rising.{All, all_imp, below_all, map_same}
use Rattle.rule_laws.proofs.Members.{any_intro, any_mem, mem_below, mem_has, has_mem, mem_at, mem_index}
use Rattle.flood.specs.Plan.{Plan, begins, thing, run, members, meets, joins, FloodAsks}
use Rattle.flood.specs.Uniting.{Turns}

-- ---- the runs lie in line

module _ {w : List ℕ} {g : Plan} (q : FloodAsks w g) where
  -- a later run begins no earlier
  pub begins_le : (r s : ℕ) → r ≤ s → s ≤ g.runs → begins w g r ≤ begins w g s
  begins_le r s l h =
      le_ind (λ (i : ℕ). i ≤ g.runs → begins w g r ≤ begins w g i) (λ k. omega arith)
      (λ i a e k. let o = q.rising i (omega arith) in let b = e (omega arith) in let c = ap (begins w g) (add-one i) in omega arith) s l h

  -- each run ends no later than the last
  pub ends_le : (r : ℕ) → r < g.runs → begins w g (r + 1) ≤ begins w g g.runs
  ends_le r h = begins_le (r + 1) g.runs (omega arith) (omega arith)

-- ---- labels are written, and nothing else

-- a region within one that is apart, from the same place on, and from a later one
pub apart_less : {a n b m k : ℕ} → k ≤ n → Apart a n b m → Apart a k b m
apart_less l (before p) = before (omega arith)
apart_less l (after p) = after p

apart_in : {a n b m : ℕ} (c k : ℕ) → a ≤ c → c + k ≤ a + n → Apart a n b m → Apart c k b m
apart_in c k l h (before p) = before (omega arith)
apart_in c k l h (after p) = after (omega arith)

module _ {g : Plan} {w w' : List ℕ} (q : FloodAsks w g) (o : Only g.labels g.things w w') where
  -- where a run begins, and what stands at a place of it, stay
  pub begins_kept : (r : ℕ) → r ≤ g.runs → begins w' g r ≡ begins w g r
  begins_kept r h = kept_at o q.starts_apart r (omega arith)

  pub thing_kept : (p : ℕ) → p < begins w g g.runs → thing w' g p ≡ thing w g p
  thing_kept p h = kept_at o q.order_apart p h

  -- so what was asked of the row still holds
  pub asks_kept : FloodAsks w' g
  asks_kept =
      let e = o.long in
      let b = begins_kept g.runs (omega arith) in
      record {
        few = q.few;
        labels_fit = omega (arith, q.labels_fit);
        starts_fit = omega (arith, q.starts_fit);
        starts_apart = q.starts_apart;
        rising = λ r h. omega (arith, begins_kept r (omega arith), begins_kept (r + 1) (omega arith), q.rising r h);
        order_fit = omega (arith, q.order_fit);
        order_apart = subst (λ (k : ℕ). Apart g.order k g.labels g.things) (sym b) q.order_apart;
        inside = λ p l h. omega (arith, thing_kept p (omega arith), q.inside p (omega (arith, begins_kept 0 (omega arith))) (omega arith));
      }

  -- a run stays, and so do all
  run_kept : (r : ℕ) → r < g.runs → run w' g r ≡ run w g r
  run_kept r h =
      let a = begins_kept r (omega arith) in
      let b = begins_kept (r + 1) (omega arith) in
      let e = ends_le q r h in
      let l = q.rising r h in
      ap (λ (z : ℕ). part w' (g.order + z) (begins w' g (r + 1) - z)) a
      ∙ ap (λ (z : ℕ). part w' (g.order + begins w g r) (z - begins w g r)) b
      ∙ kept o (g.order + begins w g r) (begins w g (r + 1) - begins w g r) (apart_in (g.order + begins w g r) (begins w g (r + 1) - begins w g r) (omega arith) (omega arith) q.order_apart) (omega (arith, q.order_fit))

  pub members_kept : members w' g ≡ members w g
  unfolding members
  members_kept = map_same (run w' g) (run w g) (below g.runs) (all_imp (λ r. r < g.runs) (λ r. run w' g r ≡ run w g r) run_kept (below g.runs) (below_all g.runs))

-- ---- the joining

-- it goes both ways
pub meets_turns : (rs : List (List ℕ)) → Turns (meets rs)
unfolding meets
meets_turns rs =
    record {
      each = λ x y t.
          let u = any_mem (λ run. has x run && has y run) rs t in
          let b = and_elim (has x u.0) (has y u.0) u.2 in
          any_intro (λ run. has y run && has x run) u.0 rs u.1 (and_i (has y u.0) (has x u.0) b.1 b.0);
    }

-- one of a list of images, where each of the list has the property
of_map : {B : Type 0} (P : ℕ → Type 0) (f : ℕ → B) (b : B) (xs : List ℕ) → All P xs → Memᴰ b (map f xs) → (r : ℕ) × P r × (b ≡ f r)
of_map P f b (x ∷ xs) a (Memᴰ.head e) = (x, a.0, e)
of_map P f b (x ∷ xs) a (Memᴰ.tail m) = of_map P f b xs a.1 m
of_map {B = B} P f b mathlib.Core.List.[] a x'' = elim x'' [ ]

module _ {w : List ℕ} {g : Plan} (q : FloodAsks w g) where
  -- x stands at a place of the run r
  abbrev Stands : ℕ → ℕ → Type 0
  Stands r x = (p : ℕ) × (begins w g r ≤ p) × (p < begins w g (r + 1)) × (thing w g p ≡ x)

  -- a run is as long as its starts say
  run_length : (r : ℕ) → r < g.runs → length (run w g r) ≡ begins w g (r + 1) - begins w g r
  run_length r h = length_part w (g.order + begins w g r) (begins w g (r + 1) - begins w g r) (omega (arith, q.rising r h, ends_le q r h, q.order_fit))

  -- entry i of a run stands i places after its beginning
  run_at : (r i : ℕ) → r < g.runs → i < length (run w g r) → get_or (run w g r) i 0 ≡ thing w g (begins w g r + i)
  run_at r i h l =
      let n = run_length r h in
      let e : g.order + begins w g r + i ≡ g.order + (begins w g r + i) = omega arith in
      get_d_part w (g.order + begins w g r) (begins w g (r + 1) - begins w g r) i (omega arith) ∙ ap (λ (z : ℕ). get_or w z 0) e

  -- so the thing at a place of the run is one of it
  in_run : (r p : ℕ) → r < g.runs → begins w g r ≤ p → p < begins w g (r + 1) → T (has (thing w g p) (run w g r))
  in_run r p h l u =
      let n = run_length r h in
      let i = p - begins w g r in
      let b : i < length (run w g r) = omega arith in
      let e : begins w g r + i ≡ p = omega arith in
      mem_has (thing w g p) (run w g r) (subst (λ (z : ℕ). Memᴰ z (run w g r)) (run_at r i h b ∙ ap (thing w g) e) (mem_at (run w g r) i 0 b))

  -- things at two places of one run are joined
  pub joins_intro : (r p s : ℕ) → r < g.runs → begins w g r ≤ p → p < begins w g (r + 1) → begins w g r ≤ s → s < begins w g (r + 1) → T (joins w g (thing w g p) (thing w g s))
  unfolding meets members
  joins_intro r p s h a b c d =
      any_intro (λ run. has (thing w g p) run && has (thing w g s) run) (run w g r) (members w g) (Memᴰ.map (run w g) (mem_below r g.runs h))
      (and_i (has (thing w g p) (run w g r)) (has (thing w g s) (run w g r)) (in_run r p h a b) (in_run r s h c d))

  -- and each of it stands at a place
  stands : (r x : ℕ) → r < g.runs → T (has x (run w g r)) → Stands r x
  stands r x h k =
      let i = mem_index 0 x (run w g r) (has_mem x (run w g r) k) in
      let n = run_length r h in
      let l = i.1 in
      (begins w g r + i.0, omega arith, omega arith, sym (run_at r i.0 h l) ∙ i.2)

  -- joined things stand at two places of one run
  joins_elim : (x y : ℕ) → T (joins w g x y) → (r : ℕ) × (r < g.runs) × Stands r x × Stands r y
  unfolding meets members
  joins_elim x y k =
      let u = any_mem (λ run. has x run && has y run) (members w g) k in
      let m = of_map (λ r. r < g.runs) (run w g) u.0 (below g.runs) (below_all g.runs) u.1 in
      let z = subst (λ (run : List ℕ). T (has x run && has y run)) m.2 u.2 in
      let b = and_elim (has x (run w g m.0)) (has y (run w g m.0)) z in
      (m.0, m.1, stands m.0 x m.1 b.0, stands m.0 y m.1 b.1)

-- ---- where neighbours of each run have one root, joined things have

module _ {w : List ℕ} {g : Plan} (q : FloodAsks w g) (root : ℕ → ℕ)
    (near : (r : ℕ) → r < g.runs → (p : ℕ) → begins w g r ≤ p → p + 1 < begins w g (r + 1) → root (thing w g p) ≡ root (thing w g (p + 1))) where
  -- a place and a later one, by going from neighbour to neighbour
  up : (r p s : ℕ) → r < g.runs → begins w g r ≤ p → p ≤ s → s < begins w g (r + 1) → root (thing w g p) ≡ root (thing w g s)
  up r p s h a b d =
      le_ind (λ (i : ℕ). i < begins w g (r + 1) → root (thing w g p) ≡ root (thing w g i)) (λ k. refl)
      (λ i k e o. e (omega arith) ∙ near r h i (omega arith) (omega arith) ∙ ap (λ (z : ℕ). root (thing w g z)) (add-one i)) s b d

  -- two places, in either order
  two : (r p s : ℕ) → r < g.runs → begins w g r ≤ p → p < begins w g (r + 1) → begins w g r ≤ s → s < begins w g (r + 1) → Dec (p < s) → root (thing w g p) ≡ root (thing w g s)
  two r p s h a b c d (yes e) = up r p s h a (omega arith) d
  two r p s h a b c d (no e) = sym (up r s p h c (omega arith) b)

  -- joined things stand at two places of one run
  pub joined_same : (x y : ℕ) → T (joins w g x y) → root x ≡ root y
  joined_same x y t =
      let e = joins_elim q x y t in
      let a = e.2 in
      let b = e.3 in
      ap root (sym a.3) ∙ two e.0 a.0 b.0 e.1 a.1 a.2 b.1 b.2 (dec_lt a.0 b.0) ∙ ap root b.3
