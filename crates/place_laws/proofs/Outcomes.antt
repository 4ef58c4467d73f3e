-- The place of a call's answer, if it is a refusal, is below 2^32. Assumes nothing.
use mathlib.Core.Path.{◌≡◌, sym, subst}
use mathlib.Core.List.{List}
use Prim.Native.Nat.{ℕ, ◌<◌, ◌^◌}
use lib.Ieee.{Float}
use Rattle.rules.specs.Refusal.{Check, ok, no}
use Rattle.rules.specs.Rooms.{Answer, accepted, refused, Outcome, outcome}
use Rattle.rules.specs.Calls.{RepairRooms, repair_check, repair, EdgesRooms, edges_check, find_edges, LoopsRooms, loops_check, find_loops, check_check, check, line_check, write_line}
use Rattle.place_laws.proofs.Places.{Near, repair_near, edges_near, loops_near, check_near, line_near}

-- the place of an answer, if it is a refusal, is below 2^32
unfoldable pub Placed : Answer → Type 0
Placed (accepted entries) = Unit {0}
Placed (refused n p) = p < 2 ^ 32

module _ {R : Type 0} where
  -- an outcome's place is that of the check
  pub outcome_near : (c : Check) (given : R) (entries : List ℕ) (after : R) → Near c → Placed (outcome c given entries after).answer
  unfolding outcome Near Placed
  outcome_near ok given entries after h = tt
  outcome_near (no n p) given entries after h = h

  -- a refusal that is such an outcome has a place below 2^32
  pub refused_near : {o : Outcome R} {n p : ℕ} {rooms : R} → Placed o.answer → record { answer = refused n p; rooms = rooms } ≡ o → p < 2 ^ 32
  unfolding Placed
  refused_near h e = subst (λ q. Placed q.answer) (sym e) h

-- the repair's place fits C's struct
pub repair_place :
    (points : List Float) (faces : List ℕ) (s : Float) (options : ℕ) (r : RepairRooms) {n p : ℕ} {rooms : RepairRooms}
    → record { answer = refused n p; rooms = rooms } ≡ repair points faces s options r → p < 2 ^ 32
unfolding repair
repair_place points faces s options r e = refused_near (outcome_near (repair_check points faces s options r) _ _ _ (repair_near points faces s options r)) e

-- the edge call's too
pub edges_place :
    (points : List Float) (faces : List ℕ) (r : EdgesRooms) {n p : ℕ} {rooms : EdgesRooms} → record { answer = refused n p; rooms = rooms } ≡ find_edges points faces r → p < 2 ^ 32
unfolding find_edges
edges_place points faces r e = refused_near (outcome_near (edges_check points faces r) _ _ _ (edges_near points faces r)) e

-- the loop call's too
pub loops_place :
    (points : List Float) (faces : List ℕ) (r : LoopsRooms) {n p : ℕ} {rooms : LoopsRooms} → record { answer = refused n p; rooms = rooms } ≡ find_loops points faces r → p < 2 ^ 32
unfolding find_loops
loops_place points faces r e = refused_near (outcome_near (loops_check points faces r) _ _ _ (loops_near points faces r)) e

-- the edge check's too
pub check_place : (P : ℕ) (faces work : List ℕ) {n p : ℕ} {rooms : List ℕ} → record { answer = refused n p; rooms = rooms } ≡ check P faces work → p < 2 ^ 32
unfolding check
check_place P faces work e = refused_near (outcome_near (check_check P faces work) _ _ _ (check_near P faces work)) e

-- the report line's too
pub line_place : (counts line : List ℕ) {n p : ℕ} {rooms : List ℕ} → record { answer = refused n p; rooms = rooms } ≡ write_line counts line → p < 2 ^ 32
unfolding write_line
line_place counts line e = refused_near (outcome_near (line_check counts line) _ _ _ (line_near counts line)) e
