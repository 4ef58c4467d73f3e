-- How often an edge occurs, by the runs of the table, and refusal 7. Assumes nothing.
use mathlib.Core.Path.{◌≡◌, sym, ap, ◌∙◌}
use mathlib.Core.Bool.{false}
use mathlib.Core.List.{List}
use Prim.Native.Nat.{ℕ, ◌+◌, ◌*◌, ◌-◌, ◌/◌, ◌≤◌, ◌<◌}
use native.Mathlib.Omega.{arith}
use native.Mathlib.Decide.{dec_lt}
use borrow.Author.Tests.{lt-ltb, le-ltb}
use lib.ListN.{length, get_or, length-map}
use lib.Dec.{ltb}
use Rattle.rows.specs.Region.{part}
use Rattle.rows.proofs.Regions.{length_part}
use Rattle.rules.specs.Mesh.{faces_of}
use Rattle.rules.specs.Steps.{edge, users, edges}
use Rattle.rules.specs.Refusal.{ok}
use Rattle.rules.specs.Refusal as rule
use Rattle.rules.specs.Edges.{no7}
use Rattle.rule_laws.proofs.Firsts.{none_at_fault, at_fault}
use Rattle.table.specs.Entries.{step_at, keys_of}
use Rattle.table.specs.Table.{Tabled, run_of}
use Rattle.table.proofs.Ids.{edges_keys}
use Rattle.table.proofs.Places.{none, placed, run_in, run_number, key_at_is, start_least, last_start}
use Rattle.table.proofs.Theorems.{beginning, entry, runs_fit, along_row, edge_count, users_row}
use Rattle.boundary.specs.Rows.{NoneOf, FirstAt, long}

-- more than two lie between a and b
more_than_two : (k a b c : ℕ) → k ≡ c - a → c ≡ b → ltb 2 k ≡ ltb (a + 2) b
more_than_two k a b c e f = go (dec_lt 2 k)
  where
    go : Dec (2 < k) → ltb 2 k ≡ ltb (a + 2) b
    go (yes h) = lt-ltb 2 k h ∙ sym (lt-ltb (a + 2) b (omega arith))
    go (no h) = le-ltb 2 k (omega arith) ∙ sym (le-ltb (a + 2) b (omega arith))

module _ {w xs : List ℕ} {P at m : ℕ} (t : Tabled w xs P false at m) where
  -- there are no more runs than entries
  pub runs_few : m ≤ length xs
  runs_few =
      omega (arith, t.count, start_least false P (faces_of xs) (length (keys_of false P (faces_of xs))) (omega arith), last_start t.asks t.table)

  -- run r has as many entries as edge r has users
  run_length : (r : ℕ) → r < m → length (users (faces_of xs) (get_or (edges P (faces_of xs)) r none)) ≡ beginning t (r + 1) - beginning t r
  run_length r h =
      let f = runs_fit t r h in
      ap length (sym (users_row t r h))
      ∙ length-map (part w (at + 3 * length xs + beginning t r) (beginning t (r + 1) - beginning t r)) (λ id. id / 3)
      ∙ length_part w (at + 3 * length xs + beginning t r) (beginning t (r + 1) - beginning t r) (omega (arith, t.asks.fit, f.0, f.1))

  -- the beginning of the run after r, as the code reads it
  after_is : (r : ℕ) → beginning t (r + 1) ≡ get_or w (at + 4 * length xs + r + 1) 0
  after_is r = ap (λ k. get_or w k 0) (omega arith)

  -- a run is long where the edge occurs more than twice
  long_is : (r : ℕ) → r < m → ltb 2 (length (users (faces_of xs) (get_or (edges P (faces_of xs)) r none))) ≡ long w (at + 4 * length xs) r
  long_is r h =
      more_than_two (length (users (faces_of xs) (get_or (edges P (faces_of xs)) r none))) (beginning t r) (get_or w (at + 4 * length xs + r + 1) 0) (beginning t (r + 1)) (run_length r h) (after_is r)

  -- where no run is long, 7 is not given
  pub seven_none : NoneOf (long w (at + 4 * length xs)) m → no7 P (faces_of xs) ≡ ok
  unfolding no7
  seven_none v =
      none_at_fault (λ e. ltb 2 (length (users (faces_of xs) e))) none 7 (edges P (faces_of xs))
      (λ j l. let q : j < m = omega (arith, edge_count t) in long_is j q ∙ v.none j (omega arith))

  -- the first long run is 7's place
  pub seven_found : {r : ℕ} → FirstAt (long w (at + 4 * length xs)) m r → no7 P (faces_of xs) ≡ rule.no 7 r
  unfolding no7
  seven_found {r} v =
      let h = v.within in
      at_fault (λ e. ltb 2 (length (users (faces_of xs) e))) none 7 (edges P (faces_of xs)) r (omega (arith, edge_count t))
      (λ j l. long_is j (omega arith) ∙ v.before.none j l) (long_is r h ∙ v.found)

  -- ---- an entry

  -- the run of entry i is one of the m, and its edge is that of the entry
  pub record Entry (i : ℕ) : Type 0 where
    pub here : get_or w (at + 2 * length xs + i) 0 < m
    pub key : get_or (edges P (faces_of xs)) (get_or w (at + 2 * length xs + i) 0) none ≡ edge (step_at (faces_of xs) i)

  -- it is so of each entry
  pub at_entry : (i : ℕ) → i < length xs → Entry i
  at_entry i h =
      let p = placed t.asks t.table i h in
      let q = run_in t.asks t.table p.0 p.1 in
      let e : get_or w (at + 2 * length xs + i) 0 ≡ q.0 =
      t.runs.each i h ∙ ap (run_of xs P false) (sym p.2) ∙ run_number t.asks t.table q.0 p.0 q.1 q.2 q.3 in
      record {
        here = omega (arith, q.1, t.count);
        key =
            ap (λ k. get_or (edges P (faces_of xs)) k none) e ∙ ap (λ es. get_or es q.0 none) (sym (edges_keys P (faces_of xs)))
            ∙ sym (key_at_is t.asks t.table q.0 p.0 q.1 q.2 q.3) ∙ ap (λ k. edge (step_at (faces_of xs) k)) p.2;
      }

  -- the first entry of run r is along edge r
  pub first_along : (r : ℕ) → r < m → edge (step_at (faces_of xs) (entry t (beginning t r))) ≡ get_or (edges P (faces_of xs)) r none
  first_along r h = along_row t r (beginning t r) h (omega arith) (omega (arith, (runs_fit t r h).0))

  -- edge r occurs as often as run r has entries, as the code reads it
  pub often_is : (r : ℕ) → r < m → length (users (faces_of xs) (get_or (edges P (faces_of xs)) r none)) ≡ get_or w (at + 4 * length xs + r + 1) 0 - get_or w (at + 4 * length xs + r) 0
  often_is r h = run_length r h ∙ ap (λ k. k - beginning t r) (after_is r)
