-- What is read of run r of the table at the front of the work room: bounds, the run as it is handed on to be ranked and as a region, and its edge.
-- Assumes nothing.
use mathlib.Core.Path.{◌≡◌, ap}
use mathlib.Core.Bool.{Bool, true, false}
use mathlib.Core.List.{List, map}
use Prim.Native.Nat.{ℕ, ◌+◌, ◌-◌, ◌*◌, ◌/◌, ◌^◌, ◌≤◌, ◌<◌}
use native.Mathlib.Omega.{arith}
use native.Mathlib.Nat.{zero-add}
use lib.ListN.{length, get_or, take, drop}
use lib.Ieee.{Float}
use Rattle.rows.specs.Region.{part}
use Rattle.rows.proofs.Regions.{get_d_part}
use Rattle.rules.specs.Mesh.{faces_of}
use Rattle.rules.specs.Steps.{step, users, walkers}
use Rattle.table.proofs.Ids.{edges_keys, directed_keys}
use Rattle.table.proofs.Theorems.{key_row}
use Rattle.table.proofs.Handing.{at_run, handed_long, handed_in, handed_users, handed_walkers}
use Rattle.rank.specs.Ranks.{RankAsks, BestAsks}
use Rattle.marking.specs.Marking.{point_count, face_count, edge_at, RunAsks, EntriesAsks}

-- where run r begins
abbrev pub from : List ℕ → List ℕ → ℕ → ℕ
from xs w r = get_or w (4 * length xs + r) 0

-- where the next one does
abbrev pub next : List ℕ → List ℕ → ℕ → ℕ
next xs w r = get_or w (4 * length xs + r + 1) 0

-- the bounds that a function over one run asks
pub record Bounds (xs w : List ℕ) (marks r : ℕ) : Type 0 where
  pub few : length xs < 2 ^ 32
  pub behind : 5 * length xs + 1 ≤ marks
  pub fit : marks + face_count xs ≤ length w
  pub here : r < length xs
  pub rise : from xs w r < next xs w r
  pub last : next xs w r ≤ length xs
  pub id : get_or w (3 * length xs + from xs w r) 0 < length xs

-- the run as it is handed on: the part of the slice from its first to its last entry
abbrev pub handed_on : List ℕ → List ℕ → ℕ → List ℕ
handed_on xs w r = take (3 * length xs + next xs w r - (3 * length xs + from xs w r)) (drop (3 * length xs + from xs w r) w)

-- the run as a region
abbrev pub region : List ℕ → List ℕ → ℕ → List ℕ
region xs w r = part w (3 * length xs + from xs w r) (next xs w r - from xs w r)

module _ {d : Bool} {ps : List Float} {xs w : List ℕ} {marks r : ℕ} (p : RunAsks d ps xs w marks r) where
  -- a run that is asked for has them
  pub bounds : Bounds xs w marks r
  bounds =
      let b = at_run p.tabled r p.here in
      record { few = b.few; behind = p.behind; fit = p.fit; here = omega arith; rise = simp zero-add at b.rise; last = simp zero-add at b.last; id = simp zero-add at b.id }

  -- both forms are one list
  pub handed_region : handed_on xs w r ≡ region xs w r
  handed_region =
      let b = bounds in
      let e : 3 * length xs + next xs w r - (3 * length xs + from xs w r) ≡ next xs w r - from xs w r = omega arith in
      ap (λ k. take k (drop (3 * length xs + from xs w r) w)) e

  -- how many entries the run has
  pub run_long : length (handed_on xs w r) ≡ next xs w r - from xs w r
  run_long = simp zero-add at (handed_long p.tabled r p.here)

  -- which are entries of the faces
  pub run_in : (i : ℕ) → i < length (handed_on xs w r) → get_or (handed_on xs w r) i 0 < length xs
  run_in = simp zero-add at (handed_in p.tabled r p.here)

  -- they may be ranked
  pub rank_ok : RankAsks ps xs (handed_on xs w r)
  rank_ok = record { faces = record { whole = p.tabled.asks.whole; corners = p.tabled.asks.inside }; ids = run_in }

  -- one of them ranks first
  pub best_ok : BestAsks ps xs (handed_on xs w r)
  best_ok = record { rank = rank_ok; some = omega (arith, run_long, bounds) }

  -- their faces may be marked
  pub entries_ok : EntriesAsks w (3 * length xs + from xs w r) (next xs w r - from xs w r) marks (face_count xs)
  entries_ok =
      let b = bounds in
      let l = run_long in
      record {
        behind = omega arith;
        fit = b.fit;
        faces = λ k h.
            let i = rw (handed_region, get_d_part w (3 * length xs + from xs w r) (next xs w r - from xs w r) k h) at (run_in k (omega arith)) in
            omega (arith, i, p.tabled.asks.whole);
      }

  -- the keys of the first entry are the run's edge
  pub edge_read : step (get_or w (get_or w (3 * length xs + from xs w r) 0) 0) (get_or w (length xs + get_or w (3 * length xs + from xs w r) 0) 0) ≡ edge_at d ps xs r
  edge_read = simp zero-add at (key_row p.tabled r p.here)

-- in the undirected table the faces of the run are the users of its edge
pub run_users : {ps : List Float} {xs w : List ℕ} {marks r : ℕ} → RunAsks false ps xs w marks r → map (λ id. id / 3) (handed_on xs w r) ≡ users (faces_of xs) (edge_at false ps xs r)
run_users {ps} {xs} {w} {marks} {r} p = rw (edges_keys (point_count ps) (faces_of xs)) (simp zero-add at (handed_users p.tabled r p.here))

-- in the directed table they are its walkers
pub run_walkers : {ps : List Float} {xs w : List ℕ} {marks r : ℕ} → RunAsks true ps xs w marks r → map (λ id. id / 3) (handed_on xs w r) ≡ walkers (faces_of xs) (edge_at true ps xs r)
run_walkers {ps} {xs} {w} {marks} {r} p = rw (directed_keys (point_count ps) (faces_of xs)) (simp zero-add at (handed_walkers p.tabled r p.here))
