-- What a pass over a table in a row may use: the keys at each place, the number of the run, and that every entry has a place.
-- Assumes nothing.
use mathlib.Core.Path.{◌≡◌, refl, sym, ap, ◌∙◌}
use mathlib.Core.Bool.{Bool}
use mathlib.Core.List.{List, Memᴰ}
use Prim.Native.Nat.{ℕ, zero, suc, ◌+◌, ◌*◌, ◌-◌, ◌≤◌, ◌<◌}
use native.Mathlib.Omega.{arith}
use lib.Dec.{T}
use lib.ListN.{length, get_or}
use Rattle.rows.specs.Region.{part, Apart, Only}
use Rattle.rows.proofs.Regions.{get_d_part, length_part, kept, holds_kept}
use Rattle.rules.specs.Lists.{below, any, each}
use Rattle.rules.specs.Mesh.{Face, faces_of}
use Rattle.rules.specs.Steps.{Step, step, same, entries, pairs}
use Rattle.rule_laws.proofs.Rising.{All, all_at}
use Rattle.rule_laws.proofs.Once.{mem_pairs}
use Rattle.table.specs.Entries.{step_at, under, ids_of, keys_of, start_of}
use Rattle.table.specs.Table.{Sorted, TableAsks, run_of, Tabled}
use Rattle.table.proofs.Frames.{apart_inner}
use Rattle.table.proofs.Ids.{three_faces, any_ids}
use Rattle.table.proofs.Cuts.{start, start_suc, start_all, start_mono, run_part, run_at, run_of_is}
use Rattle.table.proofs.Rows.{same_self, less_same, keys_rise, rise_at, ids_under, ids_below, keys_used, keys_in}
use Rattle.rule_laws.proofs.Members.{any_intro, mem_filter, mem_below, mem_each, mem_index}
use Rattle.rule_laws.proofs.Firsts.{first_is}

-- no step in particular
abbrev pub none : Step
none = step 0 0

-- ---- of the lists

module _ (d : Bool) (P : ℕ) (fs : List Face) where
  -- run r, as a part of the order
  pub run_is : (r : ℕ) → r < length (keys_of d P fs) → part (each (ids_of d fs) (keys_of d P fs)) (start_of d P fs r) (start_of d P fs (suc r) - start_of d P fs r) ≡ ids_of d fs (get_or (keys_of d P fs) r none)
  unfolding start_of
  run_is r h =
      let es = keys_of d P fs in
      let s = start_suc (ids_of d fs) none es r h in
      let e : start (ids_of d fs) none es (suc r) - start (ids_of d fs) none es r ≡ length (ids_of d fs (get_or es r none)) = omega arith in
      rw e (run_part (ids_of d fs) none es r h)

  -- no run is empty
  pub starts_rise : (r : ℕ) → r < length (keys_of d P fs) → start_of d P fs r < start_of d P fs (suc r)
  unfolding start_of
  starts_rise r h = omega (arith, start_suc (ids_of d fs) none (keys_of d P fs) r h, all_at (λ e. 0 < length (ids_of d fs e)) (keys_of d P fs) none r (keys_used d P fs) h)

  -- a later run begins no sooner
  pub starts_mono : (r s : ℕ) → r ≤ s → start_of d P fs r ≤ start_of d P fs s
  unfolding start_of
  starts_mono r s h = start_mono (ids_of d fs) none (keys_of d P fs) r s h

  -- the first run begins at 0
  pub start_zero : start_of d P fs 0 ≡ 0
  unfolding start_of each
  start_zero = refl

  -- the last one ends where the order does
  pub start_last : start_of d P fs (length (keys_of d P fs)) ≡ length (each (ids_of d fs) (keys_of d P fs))
  unfolding start_of
  start_last = start_all (ids_of d fs) none (keys_of d P fs)

  -- as many runs as r have at least r entries
  pub start_least : (r : ℕ) → r ≤ length (keys_of d P fs) → r ≤ start_of d P fs r
  start_least zero h = omega arith
  start_least (suc r) h = omega (arith, start_least r (omega arith), starts_rise r h)

-- ---- of a table in a row

module _ {w xs : List ℕ} {P : ℕ} {d : Bool} {at : ℕ} (p : TableAsks w xs P at) (s : Sorted w xs P d at) where
  -- the different edges
  abbrev es : List Step
  es = keys_of d P (faces_of xs)

  -- the order
  abbrev ids : List ℕ
  ids = each (ids_of d (faces_of xs)) es

  -- the entry at a place, by the row
  abbrev id : ℕ → ℕ
  id j = get_or w (at + 3 * length xs + j) 0

  -- each entry is in the order once
  pub order_long : length ids ≡ length xs
  order_long = ap length (sym s.sorted) ∙ length_part w (at + 3 * length xs) (length xs) (omega (arith, p.fit))

  -- an entry of the order, by the row
  pub id_at : (j : ℕ) → j < length xs → id j ≡ get_or ids j 0
  id_at j h = sym (get_d_part w (at + 3 * length xs) (length xs) j h) ∙ ap (λ l. get_or l j 0) s.sorted

  -- the last run ends at n
  pub last_start : start_of d P (faces_of xs) (length es) ≡ length xs
  last_start = start_last d P (faces_of xs) ∙ order_long

  -- what holds of the members of each run
  at_place : (Q : Step → ℕ → Type 0) → ((e : Step) → All (Q e) (ids_of d (faces_of xs) e)) → (r j : ℕ) → r < length es → start_of d P (faces_of xs) r ≤ j → j < start_of d P (faces_of xs) (suc r) → Q (get_or es r none) (id j)
  unfolding start_of
  at_place Q a r j h l k =
      let t = start_mono (ids_of d (faces_of xs)) none es (suc r) (length es) h in
      let u = start_all (ids_of d (faces_of xs)) none es in
      let q : j < length xs = omega (arith, order_long) in
      rw (id_at j q) (run_at (ids_of d (faces_of xs)) none es Q a r j h l k)

  -- the order has numbers of entries
  pub id_in : (j : ℕ) → j < length xs → id j < length xs
  id_in j h =
      let o = order_long in
      let r = run_of_is (ids_of d (faces_of xs)) none es j (omega arith) in
      let t = run_at (ids_of d (faces_of xs)) none es (λ e i. i < 3 * length (faces_of xs)) (ids_below d (faces_of xs)) r.0 j r.1 r.2 r.3 in
      let q = three_faces xs p.whole in
      rw (id_at j h) (omega arith)

  -- an entry in run r is under edge r
  pub key_at_is : (r j : ℕ) → r < length es → start_of d P (faces_of xs) r ≤ j → j < start_of d P (faces_of xs) (suc r) → under d (step_at (faces_of xs) (id j)) ≡ get_or es r none
  key_at_is r j h l k = at_place (λ e i. under d (step_at (faces_of xs) i) ≡ e) (ids_under d (faces_of xs)) r j h l k

  -- the number of the run of the entry at a place
  pub run_number : (r j : ℕ) → r < length es → start_of d P (faces_of xs) r ≤ j → j < start_of d P (faces_of xs) (suc r) → run_of xs P d (id j) ≡ r
  run_number r j h l k =
      let e = key_at_is r j h l k in
      first_is (same (under d (step_at (faces_of xs) (id j)))) none es r h
      (λ t q. rw e (less_same (rise_at none es (keys_rise d P (faces_of xs)) t r q h)))
      (rw e (same_self (get_or es r none)))

  -- the run that a place is in
  pub run_in : (j : ℕ) → j < length xs → (r : ℕ) × (r < length es) × (start_of d P (faces_of xs) r ≤ j) × (j < start_of d P (faces_of xs) (suc r))
  unfolding start_of
  run_in j h = run_of_is (ids_of d (faces_of xs)) none es j (omega (arith, order_long))

  -- every entry has a place
  pub placed : (i : ℕ) → i < length xs → (j : ℕ) × (j < length xs) × (id j ≡ i)
  placed i h =
      let w = mem_index 0 i ids member in
      let k : w.0 < length xs = omega (arith, w.1, order_long) in
      (w.0, k, id_at w.0 k ∙ w.2)
    where
      e : Step
      e = under d (step_at (faces_of xs) i)

      itself : T (same e e)
      itself = rw (same_self e) tt

      h3 : i < 3 * length (faces_of xs)
      h3 = omega (arith, three_faces xs p.whole)

      used : T (any (λ n. same e (under d n.along)) (entries (faces_of xs)))
      used = rw (any_ids (λ t. same e (under d t)) (faces_of xs)) (any_intro (λ k. same e (under d (step_at (faces_of xs) k))) i (below (3 * length (faces_of xs))) (mem_below i (3 * length (faces_of xs)) h3) itself)

      key : Memᴰ e es
      key =
          let b = keys_in P d xs p.whole p.inside i h in
          unfold keys_of in (mem_filter (λ c. any (λ n. same c (under d n.along)) (entries (faces_of xs))) e (pairs P) (mem_pairs P e.from e.to b.0 b.1) used)

      mine : Memᴰ i (ids_of d (faces_of xs) e)
      mine = unfold ids_of in (mem_filter (λ k. same e (under d (step_at (faces_of xs) k))) i (below (3 * length (faces_of xs))) (mem_below i (3 * length (faces_of xs)) h3) itself)

      member : Memᴰ i ids
      member = mem_each (ids_of d (faces_of xs)) e i es key mine

-- what a table asks, of a row that is as long
pub asks_kept : {w w' xs : List ℕ} {P at : ℕ} → TableAsks w xs P at → length w' ≡ length w → TableAsks w' xs P at
asks_kept p l = record { whole = p.whole; few = p.few; fit = omega (arith, p.fit); inside = p.inside }

-- a table is one still after a step that writes elsewhere
pub tabled_kept : {w w' xs : List ℕ} {P : ℕ} {d : Bool} {at m a n : ℕ} → Only a n w w' → Apart at (5 * length xs + 1) a n → Tabled w xs P d at m → Tabled w' xs P d at m
tabled_kept {w} {w'} {xs} {P} {d} {at} {m} {a} {n} o s t =
    let l = o.long in
    let k = start_least d P (faces_of xs) (length (keys_of d P (faces_of xs))) (omega arith) in
    let z = last_start t.asks t.table in
    let c = t.count in
    record {
      asks = asks_kept t.asks l;
      table = record {
        firsts = holds_kept o (apart_inner at (length xs) (omega arith) (omega arith) s) t.table.firsts;
        seconds = holds_kept o (apart_inner (at + length xs) (length xs) (omega arith) (omega arith) s) t.table.seconds;
        sorted = kept o (at + 3 * length xs) (length xs) (apart_inner (at + 3 * length xs) (length xs) (omega arith) (omega arith) s) (omega (arith, t.asks.fit)) ∙ t.table.sorted;
      };
      count = t.count;
      starts = holds_kept o (apart_inner (at + 4 * length xs) (m + 1) (omega arith) (omega arith) s) t.starts;
      runs = holds_kept o (apart_inner (at + 2 * length xs) (length xs) (omega arith) (omega arith) s) t.runs;
    }
