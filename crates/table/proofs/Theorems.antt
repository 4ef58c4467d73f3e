-- What the table says, in the rules' words: read off the rows, run r has the users (or the walkers) of edge r, the first entry of each run gives
-- the edges, and an entry's run is its edge's position. Assumes nothing.
use mathlib.Core.Path.{◌≡◌, refl, sym, ap, ap₂, ◌∙◌}
use mathlib.Core.Bool.{Bool, true, false}
use mathlib.Core.List.{List, [], ◌∷◌, map, map-map}
use Prim.Native.Nat.{ℕ, suc, ◌+◌, ◌*◌, ◌-◌, ◌/◌, ◌≤◌, ◌<◌}
use native.Mathlib.Omega.{arith}
use native.Mathlib.Numerals.{add-one}
use lib.ListN.{length, get_or}
use Rattle.rows.specs.Region.{part}
use Rattle.rows.proofs.Regions.{get_d_part, part_eq, length_part}
use Rattle.rules.specs.Lists.{below, filter, any, each, first}
use Rattle.rules.specs.Mesh.{face, faces_from, faces_of}
use Rattle.rules.specs.Steps.{step, same, edge, entries, users, walkers, pairs, edges, directed}
use Rattle.rules.specs.Edges.{position}
use Rattle.rule_laws.proofs.Lists.{below_suc}
use Rattle.rule_laws.proofs.Rising.{all_imp, below_all, map_same}
use Rattle.table.specs.Entries.{step_at, ids_of, keys_of, start_of}
use Rattle.table.specs.Table.{Tabled, run_of}
use Rattle.table.proofs.Ids.{users_ids, walkers_ids, edges_keys, directed_keys}
use Rattle.table.proofs.Places.{none, run_is, starts_rise, starts_mono, last_start, key_at_is, id_in}

-- a list by its places
by_places : {A : Type 0} (z : A) (xs : List A) → map (λ r. get_or xs r z) (below (length xs)) ≡ xs
by_places z [] = unfold below in refl
by_places z (x ∷ xs) = rw (below_suc (length xs)) (ap (λ l. x ∷ l) (map-map (λ r. get_or (x ∷ xs) r z) suc (below (length xs)) ∙ by_places z xs))

-- a part of a part
part_part : (w : List ℕ) (o n a k : ℕ) → o + n ≤ length w → a + k ≤ n → part w (o + a) k ≡ part (part w o n) a k
part_part w o n a k h l =
    part_eq w (part w o n) (o + a) a k (omega arith) (rw (length_part w o n h) l)
    (λ i q. let e : o + a + i ≡ o + (a + i) = omega arith in ap (λ j. get_or w j 0) e ∙ sym (get_d_part w o n (a + i) (omega arith)))

module _ {w xs : List ℕ} {P : ℕ} {d : Bool} {at m : ℕ} (t : Tabled w xs P d at m) where
  -- where run r beginning, by the row
  abbrev pub beginning : ℕ → ℕ
  beginning r = get_or w (at + 4 * length xs + r) 0

  -- the entry at a place, by the row
  abbrev pub entry : ℕ → ℕ
  entry j = get_or w (at + 3 * length xs + j) 0

  -- that is where the rules' edge r begins
  pub begins_is : (r : ℕ) → r ≤ m → beginning r ≡ start_of d P (faces_of xs) r
  begins_is r h = t.starts.each r (omega arith)

  -- no run is empty, and all are in the order
  pub runs_fit : (r : ℕ) → r < m → (beginning r < beginning (r + 1)) × (beginning (r + 1) ≤ length xs)
  runs_fit r h =
      let k : r < length (keys_of d P (faces_of xs)) = omega (arith, t.count) in
      rw (begins_is r (omega arith), begins_is (r + 1) (omega arith), add-one r)
      (starts_rise d P (faces_of xs) r k, omega (arith, starts_mono d P (faces_of xs) (suc r) (length (keys_of d P (faces_of xs))) k, last_start t.asks t.table))

  -- run r is the part of the order from its beginning to the next one's
  pub run_row : (r : ℕ) → r < m → part w (at + 3 * length xs + beginning r) (beginning (r + 1) - beginning r) ≡ ids_of d (faces_of xs) (get_or (keys_of d P (faces_of xs)) r none)
  run_row r h =
      let k : r < length (keys_of d P (faces_of xs)) = omega (arith, t.count) in
      let f = runs_fit r h in
      part_part w (at + 3 * length xs) (length xs) (beginning r) (beginning (r + 1) - beginning r) (omega (arith, t.asks.fit)) (omega (arith, f.0, f.1))
      ∙ rw (t.table.sorted, begins_is r (omega arith), begins_is (r + 1) (omega arith), add-one r) (run_is d P (faces_of xs) r k)

  -- the keys of the first entry of run r are the edge
  pub key_row : (r : ℕ) → r < m → step (get_or w (at + entry (beginning r)) 0) (get_or w (at + length xs + entry (beginning r)) 0) ≡ get_or (keys_of d P (faces_of xs)) r none
  key_row r h =
      let k : r < length (keys_of d P (faces_of xs)) = omega (arith, t.count) in
      let f = runs_fit r h in
      let s = starts_rise d P (faces_of xs) r k in
      let b = begins_is r (omega arith) in
      let i = id_in t.asks t.table (beginning r) (omega (arith, f.0, f.1)) in
      ap₂ (λ x y. step x y) (t.table.firsts.each (entry (beginning r)) i) (t.table.seconds.each (entry (beginning r)) i)
      ∙ key_at_is t.asks t.table r (beginning r) k (omega arith) (omega arith)

  -- all the edges, from the first entry of each run
  pub keys_row : map (λ r. step (get_or w (at + entry (beginning r)) 0) (get_or w (at + length xs + entry (beginning r)) 0)) (below m) ≡ keys_of d P (faces_of xs)
  keys_row =
      map_same (λ r. step (get_or w (at + entry (beginning r)) 0) (get_or w (at + length xs + entry (beginning r)) 0)) (λ r. get_or (keys_of d P (faces_of xs)) r none) (below m)
      (all_imp (λ r. r < m) (λ r. step (get_or w (at + entry (beginning r)) 0) (get_or w (at + length xs + entry (beginning r)) 0) ≡ get_or (keys_of d P (faces_of xs)) r none) key_row (below m) (below_all m))
      ∙ ap (λ k. map (λ r. get_or (keys_of d P (faces_of xs)) r none) (below k)) t.count
      ∙ by_places none (keys_of d P (faces_of xs))

-- ---- the undirected table

module _ {w xs : List ℕ} {P at m : ℕ} (t : Tabled w xs P false at m) where
  -- as many runs as edges
  pub edge_count : m ≡ length (edges P (faces_of xs))
  edge_count = t.count ∙ ap length (edges_keys P (faces_of xs))

  -- the edges, in the rules' order
  pub edges_row : map (λ r. step (get_or w (at + entry t (beginning t r)) 0) (get_or w (at + length xs + entry t (beginning t r)) 0)) (below m) ≡ edges P (faces_of xs)
  edges_row = keys_row t ∙ edges_keys P (faces_of xs)

  -- an entry of run r is along edge r
  pub along_row : (r k : ℕ) → r < m → beginning t r ≤ k → k < beginning t (r + 1) → edge (step_at (faces_of xs) (entry t k)) ≡ get_or (edges P (faces_of xs)) r none
  along_row r k h a b =
      let s = begins_is t r (omega arith) in
      let u = begins_is t (r + 1) (omega arith) in
      key_at_is t.asks t.table r k (omega (arith, t.count)) (omega arith) (rw (← add-one r) (omega arith)) ∙ ap (λ es. get_or es r none) (edges_keys P (faces_of xs))

  -- run r has the users of edge r, in face order
  pub users_row : (r : ℕ) → r < m → map (λ id. id / 3) (part w (at + 3 * length xs + beginning t r) (beginning t (r + 1) - beginning t r)) ≡ users (faces_of xs) (get_or (edges P (faces_of xs)) r none)
  users_row r h = rw (run_row t r h, users_ids (faces_of xs), edges_keys P (faces_of xs))

  -- the run of an entry is the position of its edge
  pub positions_row : (id : ℕ) → id < length xs → get_or w (at + 2 * length xs + id) 0 ≡ position P (faces_of xs) (step_at (faces_of xs) id)
  unfolding position
  positions_row id h = t.runs.each id h ∙ ap (first (same (edge (step_at (faces_of xs) id)))) (edges_keys P (faces_of xs))

-- ---- the directed table

module _ {w xs : List ℕ} {P at m : ℕ} (t : Tabled w xs P true at m) where
  -- the directed edges, in the rules' order
  pub directed_row : map (λ r. step (get_or w (at + entry t (beginning t r)) 0) (get_or w (at + length xs + entry t (beginning t r)) 0)) (below m) ≡ directed P (faces_of xs)
  directed_row = keys_row t ∙ directed_keys P (faces_of xs)

  -- run r has the faces that walk directed edge r, in face order
  pub walkers_row : (r : ℕ) → r < m → map (λ id. id / 3) (part w (at + 3 * length xs + beginning t r) (beginning t (r + 1) - beginning t r)) ≡ walkers (faces_of xs) (get_or (directed P (faces_of xs)) r none)
  walkers_row r h = rw (run_row t r h, walkers_ids (faces_of xs), directed_keys P (faces_of xs))

-- ---- examples, computed: two faces that share the edge {1, 2}, and one that repeats a corner

-- the corners of the three
abbrev two : List ℕ
two = 0 ∷ 1 ∷ 2 ∷ 2 ∷ 1 ∷ 3 ∷ 1 ∷ 1 ∷ 0 ∷ []

-- the undirected order
pub example_order : each (ids_of false (faces_of two)) (keys_of false 4 (faces_of two)) ≡ 0 ∷ 7 ∷ 8 ∷ 2 ∷ 6 ∷ 1 ∷ 3 ∷ 4 ∷ 5 ∷ []
unfolding each ids_of keys_of step_at filter below any entries pairs same edge faces_from face
example_order = refl

-- the directed order
pub example_directed : each (ids_of true (faces_of two)) (keys_of true 4 (faces_of two)) ≡ 0 ∷ 8 ∷ 7 ∷ 6 ∷ 1 ∷ 4 ∷ 2 ∷ 3 ∷ 5 ∷ []
unfolding each ids_of keys_of step_at filter below any entries pairs same edge faces_from face
example_directed = refl

-- where the undirected runs begin
pub example_starts : map (start_of false 4 (faces_of two)) (below 7) ≡ 0 ∷ 3 ∷ 4 ∷ 5 ∷ 7 ∷ 8 ∷ 9 ∷ []
unfolding start_of each ids_of keys_of step_at filter below any entries pairs same edge faces_from face
example_starts = refl

-- the run of each entry
pub example_runs : map (run_of two 4 false) (below 9) ≡ 0 ∷ 3 ∷ 1 ∷ 3 ∷ 4 ∷ 5 ∷ 2 ∷ 0 ∷ 0 ∷ []
unfolding first each ids_of keys_of step_at filter below any entries pairs same edge faces_from face
example_runs = refl
