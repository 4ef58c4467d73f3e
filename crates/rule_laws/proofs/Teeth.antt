-- What each pass is for: on a smallest mesh, the line of demand 3 that fails without it. No line fails without pass 1, 2 or 3: the demand is proved
-- without them. Without pass 1 a face may repeat a corner, and without pass 2 or 3 only the answer is another. And which pass the edge check's yes takes.
-- The options are 63 without the pass's bit: bits 0 to 5 are passes 1, 2, 3, 5, 4, 6. Assumes nothing.
use mathlib.Core.Path.{◌≡◌, refl}
use mathlib.Core.Bool.{true, false, not}
use mathlib.Core.List.Memᴰ
use mathlib.Core.List.{List, [], ◌∷◌}
use Prim.Native.Nat.{ℕ, ◌+◌, ◌*◌, ◌<◌}
use native.Mathlib.Omega.{arith}
use lib.ListN.{length, take, replicate}
use lib.Dec.{lit<, lit≤}
use lib.Ieee.{Float}
use Rattle.rules.specs.Lists.{all, below, count, each}
use Rattle.rules.specs.Mesh.{Point, Face, zero64, points_of, faces_of}
use Rattle.rules.specs.Float.{repeats}
use Rattle.rules.specs.Steps.{step, steps, same}
use Rattle.rules.specs.State.{State, report_counts, dropped_at_edges}
use Rattle.rules.specs.Pass5.{fans}
use Rattle.rules.specs.Pass6.{used}
use Rattle.rules.specs.Repair.{repaired}
use Rattle.rules.specs.Refusal.{ok, no}
use Rattle.rules.specs.Edges.{no8, sound}
use Rattle.rules.specs.Calls.{RepairRooms}
use Rattle.rules.specs.Bench.{legs, origins}
use Rattle.rules.specs.Open.{every_rule}
use Rattle.rule_laws.proofs.Demand.{at, Claim, ClaimBeside, ClaimChecked, Demand3, Beside, Distinct}
use Rattle.rule_laws.proofs.Rising.{All, all_at}
use Rattle.rule_laws.proofs.Agreeing.{groups_of_fan}
use Rattle.rule_laws.proofs.Demand3.{demand_opted}
use Rattle.rule_laws.proofs.Checked.{no_is_not_yes, checked_opted}

-- ---- the meshes, each repaired with the threshold 0

-- rooms as long as stated for P points and F faces
abbrev rooms : ℕ → ℕ → RepairRooms
rooms P F =
    record {
      out_points = replicate (3 * (P + 3 * F)) zero64;
      out_faces = replicate (3 * F) 0;
      report = replicate report_counts 0;
      origins = replicate F 0;
      work = replicate (16 * P + 64 * F + 64) 0;
    }

-- what the rules return with these options
abbrev mended : List Float → List ℕ → ℕ → State
mended points faces options = repaired zero64 options (points_of points) (faces_of faces)

-- one face that repeats a corner
unfoldable pub folded : ℕ → State
folded = mended (origins 2) (0 ∷ 0 ∷ 1 ∷ [])

-- the same face twice
unfoldable pub doubled : ℕ → State
doubled = mended (take 9 legs) (0 ∷ 1 ∷ 2 ∷ 0 ∷ 1 ∷ 2 ∷ [])

-- three faces on one edge
unfoldable pub crowded : ℕ → State
crowded = mended legs (0 ∷ 1 ∷ 2 ∷ 0 ∷ 1 ∷ 3 ∷ 0 ∷ 1 ∷ 4 ∷ [])

-- two faces that walk an edge the same way
unfoldable pub opposed : ℕ → State
opposed = mended (take 12 legs) (0 ∷ 1 ∷ 2 ∷ 0 ∷ 1 ∷ 3 ∷ [])

-- two faces that share a corner alone
unfoldable pub pinched : ℕ → State
pinched = mended legs (0 ∷ 1 ∷ 2 ∷ 0 ∷ 3 ∷ 4 ∷ [])

-- a point and no face
unfoldable pub lonely : ℕ → State
lonely = mended (origins 1) []

-- ---- what is seen with all six options, and without one pass

-- whether no face repeats a corner, with and without pass 1
pub is_distinct_by_1 : (all (λ f. not (repeats f)) (folded 63).faces ≡ true) × (all (λ f. not (repeats f)) (folded 62).faces ≡ false)
unfolding folded origins every_rule
is_distinct_by_1 = (refl, refl)

-- how many faces stay, with and without pass 2
pub answer_by_2 : (length (doubled 63).faces ≡ 1) × (length (doubled 61).faces ≡ 2)
unfolding doubled legs every_rule
answer_by_2 = (refl, refl)

-- how many faces are dropped at edges with more than two, with and without pass 3
pub answer_by_3 : (at (crowded 63).report dropped_at_edges ≡ 1) × (at (crowded 59).report dropped_at_edges ≡ 0)
unfolding crowded legs every_rule
answer_by_3 = (refl, refl)

-- how often the directed edge from 0 to 1 is walked, with and without pass 4
pub each_once_by_4 : (count (same (step 0 1)) (each steps (opposed 63).faces) ≡ 1) × (count (same (step 0 1)) (each steps (opposed 47).faces) ≡ 2)
unfolding opposed legs every_rule
each_once_by_4 = (refl, refl)

-- how many fans there are at point 0, with and without pass 5
pub one_fan_by_5 : (length (fans (pinched 63).faces 0) ≡ 1) × (length (fans (pinched 55).faces 0) ≡ 2)
unfolding pinched legs every_rule
one_fan_by_5 = (refl, refl)

-- what the loop call says of the boundary, with all six options, without pass 4 and without pass 5
pub loops_accepted_by_4_and_5 :
    (no8 4 (opposed 63).faces ≡ ok) × (no8 4 (opposed 47).faces ≡ no 8 0) × (no8 6 (pinched 63).faces ≡ ok) × (no8 5 (pinched 55).faces ≡ no 8 0)
unfolding opposed pinched legs every_rule
loops_accepted_by_4_and_5 = (refl, refl, refl, refl)

-- whether each point is used, with and without pass 6
pub every_used_by_6 :
    (all (used (lonely 63).faces) (below (length (lonely 63).points)) ≡ true) × (all (used (lonely 31).faces) (below (length (lonely 31).points)) ≡ false)
unfolding lonely origins every_rule
every_used_by_6 = (refl, refl)

-- whether the edge check says yes, with all six options and without pass 1, 4 or 5
pub says_yes_by_1_4_and_5 :
    (sound (folded 63).faces ≡ true) × (sound (folded 62).faces ≡ false) × (sound (opposed 63).faces ≡ true) × (sound (opposed 47).faces ≡ false)
    × (sound (pinched 63).faces ≡ true) × (sound (pinched 55).faces ≡ false)
unfolding folded opposed pinched legs origins every_rule
says_yes_by_1_4_and_5 = (refl, refl, refl, refl, refl, refl)

-- and without pass 2, 3 or 6
pub says_yes_not_by_2_3_or_6 : (sound (doubled 61).faces ≡ true) × (sound (crowded 59).faces ≡ true) × (sound (lonely 31).faces ≡ true)
unfolding doubled crowded lonely legs origins every_rule
says_yes_not_by_2_3_or_6 = (refl, refl, refl)

-- ---- so the demand fails without pass 4, 5 or 6, each at its own line, and holds without pass 1, 2 or 3

-- without pass 1 a face may repeat a corner
pub beside_without1 : ClaimBeside 62 → ⊥
unfolding folded origins every_rule
beside_without1 claim =
    let d : Beside (folded 62) = claim (origins 2) (0 ∷ 0 ∷ 1 ∷ []) zero64 (rooms 2 1) refl in
    (d.is_distinct (record { a = 0; b = 0; c = 1; origin = 0 }) (Memᴰ.head refl)).0 refl

-- and the demand holds
pub without1 : Claim 62
without1 = demand_opted false true true

-- without pass 2 the demand holds
pub without2 : Claim 61
without2 = demand_opted true false true

-- without pass 3 the demand holds
pub without3 : Claim 59
without3 = demand_opted true true false

-- without pass 4 a directed edge is walked twice
pub without4 : Claim 47 → ⊥
unfolding opposed legs every_rule
without4 claim =
    let d = claim (take 12 legs) (0 ∷ 1 ∷ 2 ∷ 0 ∷ 1 ∷ 3 ∷ []) zero64 (rooms 4 2) refl in
    absurd (omega (arith, d.each_once (step 0 1), each_once_by_4.1))

-- without pass 5 a point has two fans
pub without5 : Claim 55 → ⊥
unfolding pinched legs every_rule
without5 claim =
    no_two_fans (points_of legs) (faces_of (0 ∷ 1 ∷ 2 ∷ 0 ∷ 3 ∷ 4 ∷ [])) (pinched 55) 0 (lit< tt)
    (((λ e. absurd (omega arith)), (λ e. absurd (omega arith)), (λ e. absurd (omega arith))), (((λ e. absurd (omega arith)), (λ e. absurd (omega arith)), (λ e. absurd (omega arith))), tt))
    (claim legs (0 ∷ 1 ∷ 2 ∷ 0 ∷ 3 ∷ 4 ∷ []) zero64 (rooms 5 2) refl) one_fan_by_5.1
  where
    no_two_fans : (ps : List Point) (fs : List Face) (m : State) (v : ℕ) → v < length m.points → All Distinct m.faces → Demand3 ps fs m → length (fans m.faces v) ≡ 2 → ⊥
    no_two_fans ps fs m v h distinct d e =
        let l = groups_of_fan m.faces v (λ i k. all_at Distinct m.faces (record { a = 0; b = 0; c = 0; origin = 0 }) i distinct k) (d.one_fan v h) in
        omega (arith, l, e)

-- without pass 6 a point is unused
pub without6 : Claim 31 → ⊥
unfolding lonely origins every_rule
without6 claim =
    let d = claim (origins 1) [] zero64 (rooms 1 0) refl in
    d.every_used 0 (lit< tt)

-- ---- the edge check's yes fails without pass 1, 4 or 5, and stays without pass 2 or 3. Without pass 6 there may be more points than the check takes

-- without pass 1 a face may repeat a corner
pub checked_without1 : ClaimChecked 62 → ⊥
unfolding folded origins every_rule
checked_without1 claim = no_is_not_yes (claim (origins 2) (0 ∷ 0 ∷ 1 ∷ []) zero64 (rooms 2 1) refl (replicate 160 0) (lit≤ tt))

-- without pass 2
pub checked_without2 : ClaimChecked 61
checked_without2 = checked_opted false true

-- without pass 3
pub checked_without3 : ClaimChecked 59
checked_without3 = checked_opted true false

-- without pass 4 a directed edge is walked twice
pub checked_without4 : ClaimChecked 47 → ⊥
unfolding opposed legs every_rule
checked_without4 claim = no_is_not_yes (claim (take 12 legs) (0 ∷ 1 ∷ 2 ∷ 0 ∷ 1 ∷ 3 ∷ []) zero64 (rooms 4 2) refl (replicate 256 0) (lit≤ tt))

-- without pass 5 a point has two groups
pub checked_without5 : ClaimChecked 55 → ⊥
unfolding pinched legs every_rule
checked_without5 claim = no_is_not_yes (claim legs (0 ∷ 1 ∷ 2 ∷ 0 ∷ 3 ∷ 4 ∷ []) zero64 (rooms 5 2) refl (replicate 272 0) (lit≤ tt))
