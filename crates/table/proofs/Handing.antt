-- What a pass reads of run r of a table: bounds, and the run, which is handed on as a part of the slice from its first to its last entry. Assumes nothing.
use mathlib.Core.Path.{◌≡◌, ap}
use mathlib.Core.Bool.{Bool, true, false}
use mathlib.Core.List.{List, map}
use Prim.Native.Nat.{ℕ, ◌+◌, ◌-◌, ◌*◌, ◌/◌, ◌^◌, ◌≤◌, ◌<◌}
use native.Mathlib.Omega.{arith}
use lib.ListN.{length, get_or, take, drop}
use Rattle.rows.proofs.Regions.{length_part, get_d_part}
use Rattle.rules.specs.Mesh.{faces_of}
use Rattle.rules.specs.Steps.{users, walkers, edges, directed}
use Rattle.table.specs.Entries.{keys_of}
use Rattle.table.specs.Table.{Tabled}
use Rattle.table.proofs.Places.{none, id_in, start_least, last_start}
use Rattle.table.proofs.Theorems.{runs_fit, users_row, walkers_row}

-- where run r begins and where the next one does, both read from the row, and the first entry
pub record AtRun (w xs : List ℕ) (at m r : ℕ) : Type 0 where
  pub few : length xs < 2 ^ 32
  pub fit : at + 5 * length xs + 1 ≤ length w
  pub here : r < m
  pub runs : m ≤ length xs
  pub rise : get_or w (at + 4 * length xs + r) 0 < get_or w (at + 4 * length xs + r + 1) 0
  pub last : get_or w (at + 4 * length xs + r + 1) 0 ≤ length xs
  pub id : get_or w (at + 3 * length xs + get_or w (at + 4 * length xs + r) 0) 0 < length xs

-- the part of the slice that is handed on
abbrev pub handed : List ℕ → List ℕ → ℕ → ℕ → List ℕ
handed w xs at r =
    take (at + 3 * length xs + get_or w (at + 4 * length xs + r + 1) 0 - (at + 3 * length xs + get_or w (at + 4 * length xs + r) 0))
    (drop (at + 3 * length xs + get_or w (at + 4 * length xs + r) 0) w)

module _ {w xs : List ℕ} {P : ℕ} {d : Bool} {at m : ℕ} (t : Tabled w xs P d at m) (r : ℕ) (h : r < m) where
  -- the next run's beginning, as the code reads it
  next_is : get_or w (at + 4 * length xs + (r + 1)) 0 ≡ get_or w (at + 4 * length xs + r + 1) 0
  next_is = ap (λ k. get_or w k 0) (omega arith)

  -- the bounds hold
  pub at_run : AtRun w xs at m r
  at_run =
      let f = runs_fit t r h in
      let n = next_is in
      let c = t.count in
      record {
        few = t.asks.few;
        fit = omega (arith, t.asks.fit);
        here = h;
        runs = omega (arith, start_least d P (faces_of xs) (length (keys_of d P (faces_of xs))) (omega arith), last_start t.asks t.table);
        rise = omega (arith, f.0);
        last = omega (arith, f.1);
        id = id_in t.asks t.table (get_or w (at + 4 * length xs + r) 0) (omega (arith, f.0, f.1));
      }

  -- the part's length, as the theorems have it
  pub long_is : at + 3 * length xs + get_or w (at + 4 * length xs + r + 1) 0 - (at + 3 * length xs + get_or w (at + 4 * length xs + r) 0) ≡ get_or w (at + 4 * length xs + (r + 1)) 0 - get_or w (at + 4 * length xs + r) 0
  long_is = omega (arith, next_is)

  -- the part has the entries of the run
  pub handed_long : length (handed w xs at r) ≡ get_or w (at + 4 * length xs + r + 1) 0 - get_or w (at + 4 * length xs + r) 0
  handed_long =
      let b = at_run in
      let o = at + 3 * length xs + get_or w (at + 4 * length xs + r) 0 in
      let k = at + 3 * length xs + get_or w (at + 4 * length xs + r + 1) 0 - o in
      omega (arith, length_part w o k (omega arith))

  -- which are entries of faces
  pub handed_in : (i : ℕ) → i < length (handed w xs at r) → get_or (handed w xs at r) i 0 < length xs
  handed_in i q =
      let b = at_run in
      let l = handed_long in
      let o = at + 3 * length xs + get_or w (at + 4 * length xs + r) 0 in
      let k = at + 3 * length xs + get_or w (at + 4 * length xs + r + 1) 0 - o in
      let j = get_or w (at + 4 * length xs + r) 0 + i in
      let e : o + i ≡ at + 3 * length xs + j = omega arith in
      rw (get_d_part w o k i (omega arith), e) (id_in t.asks t.table j (omega arith))

-- in the undirected table its faces are the users of edge r
pub handed_users : {w xs : List ℕ} {P at m : ℕ} (t : Tabled w xs P false at m) (r : ℕ) → r < m → map (λ id. id / 3) (handed w xs at r) ≡ users (faces_of xs) (get_or (edges P (faces_of xs)) r none)
handed_users t r h = rw (long_is t r h) (users_row t r h)

-- in the directed table they are the walkers of directed edge r
pub handed_walkers : {w xs : List ℕ} {P at m : ℕ} (t : Tabled w xs P true at m) (r : ℕ) → r < m → map (λ id. id / 3) (handed w xs at r) ≡ walkers (faces_of xs) (get_or (directed P (faces_of xs)) r none)
handed_walkers t r h = rw (long_is t r h) (walkers_row t r h)
