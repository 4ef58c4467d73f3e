-- Demand 3 in the words of the calls: a repair with options 63 that is accepted, and the edge call, the loop call and the edge check on what it left in its
-- rooms; what any accepted loop call promises, and what a yes of the edge check promises of the other two calls. Assumes nothing.
use mathlib.Core.Path.{◌≡◌, refl, sym, ap, ◌∙◌, subst}
use mathlib.Core.Bool.{Bool, true, false, cond}
use mathlib.Core.List.{List, [], ◌∷◌, ◌++◌, map, append_assoc}
use Prim.Native.Nat.{ℕ, ◌+◌, ◌-◌, ◌*◌, ◌/◌, ◌≤◌, ◌<◌}
use native.Mathlib.Omega.{arith}
use lib.ListN.{length, get_or, take, drop, replicate, length-map}
use lib.Seq.{take_at}
use lib.Ieee.{Float}
use Rattle.rules.specs.Mesh.{points_of, faces_of, faces_with, flat_points, flat_faces, zero64}
use Rattle.rules.specs.State.{State, report_counts}
use Rattle.rules.specs.Refusal.{Check, ok, no, unless, at_first, no1, no2, no4, no5, no6}
use Rattle.rules.specs.Edges.{no7, no8, sound}
use Rattle.rules.specs.Rooms.{Answer, accepted, refused, outcome, filled}
use Rattle.rules.specs.Repair.{repaired}
use Rattle.rules.specs.Calls.{RepairRooms, repair_check, repair, EdgesRooms, edges_check, find_edges, LoopsRooms, loops_check, find_loops, check_check, check}
use Rattle.rule_laws.proofs.Pigeons.{few_points}
use Rattle.rule_laws.proofs.Flat.{with_flat, length_faces, length_flat_faces, length_flat_points, points_flat}
use Rattle.rule_laws.proofs.Decided.{decided_all, IfFound, found_none, found_by, found_first}
use Rattle.rule_laws.proofs.Accepted.{no5_inside}
use Rattle.rule_laws.proofs.Fits.{LoopsFit, loops_fit}
use Rattle.rule_laws.proofs.Demand.{Demand3, Beside, Looped, EdgesEnough, LoopsEnough, SaysYes}
use Rattle.rule_laws.proofs.Counts.{sums}
use Rattle.rule_laws.proofs.Demand3.{looped, flat_looped, demand3, beside3}
use Rattle.rule_laws.proofs.Checked.{no_is_not_yes, check_says_yes, yes_fine}

-- ---- an outcome that is accepted

-- telling the two answers apart
is_accepted : Answer → Type 0
is_accepted (accepted n) = Unit {0}
is_accepted (refused n p) = ⊥

-- its check found nothing, and the answer and the rooms are those of the call
pub outcome_ok :
    {R : Type 0} (c : Check) (given : R) (n : List ℕ) (after : R) (k : List ℕ) → (outcome c given n after).answer ≡ accepted k
    → (c ≡ ok) × (n ≡ k) × ((outcome c given n after).rooms ≡ after)
unfolding outcome is_accepted
outcome_ok ok given n after k e = (refl, (cc), refl)
outcome_ok (no m p) given n after k e = absurd (subst is_accepted (sym e) tt)

-- a call whose check finds nothing is accepted
pub outcome_is : {R : Type 0} (c : Check) (given : R) (n : List ℕ) (after : R) → c ≡ ok → (outcome c given n after).answer ≡ accepted n
unfolding outcome
outcome_is c given n after e = rw e

-- if an answer is a refusal, Q holds of its number
abbrev pub IfRefused : (ℕ → Type 0) → Answer → Type 0
IfRefused Q (accepted entries) = Unit {0}
IfRefused Q (refused n p) = Q n

-- the number is the check's
pub outcome_number :
    {R : Type 0} (Q : ℕ → Type 0) (c : Check) (given after : R) (entries : List ℕ) → IfFound Q c → IfRefused Q (outcome c given entries after).answer
unfolding outcome
outcome_number Q ok given after entries h = tt
outcome_number Q (no n p) given after entries h = h

-- the answer stands at a room's front
pub filled_front : {A : Type 0} (nought : A) (stated n : ℕ) (answer room : List A) → length answer ≡ n → take n (filled nought stated answer room) ≡ answer
unfolding filled
filled_front nought stated n answer room e =
    ap (take n) (append_assoc answer (replicate (stated - length answer) nought) (drop stated room)) ∙ take_at answer (replicate (stated - length answer) nought ++ drop stated room) n e

-- ---- any accepted loop call: each boundary edge is in exactly one loop, and every loop closes

-- by its checks 5 and 8
pub loops_looped : (points : List Float) (faces : List ℕ) (r : LoopsRooms) → loops_check points faces r ≡ ok → Looped (length points / 3) (faces_of faces)
unfolding loops_check
loops_looped points faces r e =
    let c = decided_all _ e in
    looped (length points / 3) (faces_of faces) (no5_inside (length points / 3) (faces_of faces) c.1.1.1.1.1.0) c.1.1.1.1.1.1.1.1.0

-- in the words of the call
pub find_loops_looped :
    (points : List Float) (faces : List ℕ) (r : LoopsRooms) (n : List ℕ) → (find_loops points faces r).answer ≡ accepted n → Looped (length points / 3) (faces_of faces)
unfolding find_loops
find_loops_looped points faces r n e = loops_looped points faces r (outcome_ok (loops_check points faces r) r _ _ n e).0

-- and the answer fits in the rooms stated for it; that of an edge call always does (`Fits.edges_fit`)
pub find_loops_fits :
    (points : List Float) (faces : List ℕ) (r : LoopsRooms) (n : List ℕ) → (find_loops points faces r).answer ≡ accepted n → LoopsFit (length points / 3) (faces_of faces)
unfolding find_loops loops_check
find_loops_fits points faces r n e =
    let c = decided_all _ (outcome_ok (loops_check points faces r) r _ _ n e).0 in
    loops_fit (length points / 3) (faces_of faces) (no5_inside (length points / 3) (faces_of faces) c.1.1.1.1.1.0) c.1.1.1.1.1.1.1.1.0

-- ---- any edge check that says yes: the edge call and the loop call refuse such faces neither 7 nor 8

-- faces over so many points: whatever the coordinates and the rooms are, the number of a refusal is below 7
pub record Fine (points : List Float) (faces : List ℕ) : Type 0 where
  pub edge_call : (r : EdgesRooms) → IfRefused (λ n. n < 7) (find_edges points faces r).answer
  pub loop_call : (r : LoopsRooms) → IfRefused (λ n. n < 7) (find_loops points faces r).answer

-- 1 is yes
one_is_yes : (b : Bool) → accepted (cond b 1 0 ∷ []) ≡ accepted (1 ∷ []) → b ≡ true
one_is_yes true e = refl
one_is_yes false e = absurd (no_is_not_yes e)

-- an edge check that answers 1 found its faces sound
pub check_sound : (P : ℕ) (faces work : List ℕ) → (check P faces work).answer ≡ accepted (1 ∷ []) → sound (faces_of faces) ≡ true
unfolding check
check_sound P faces work e = one_is_yes (sound (faces_of faces)) (ap accepted (outcome_ok (check_check P faces work) work _ _ (1 ∷ []) e).1)

-- a number below 7
abbrev Early : ℕ → Type 0
Early n = n < 7

-- a check by one
early : (n p : ℕ) (b : Bool) → n < 7 → IfFound Early (unless n p b)
early = found_by Early

-- 7 and 8 find nothing, and every other check has a number below 7
pub check_fine : (points : List Float) (faces work : List ℕ) → (check (length points / 3) faces work).answer ≡ accepted (1 ∷ []) → Fine points faces
unfolding find_edges edges_check find_loops loops_check no1 no2 no4 no5 no6 at_first
check_fine points faces work e =
    record {
      edge_call = λ r. outcome_number Early (edges_check points faces r) _ _ _
          (found_first Early _ (early 1 0 _ (omega arith), (early 1 1 _ (omega arith), (early 2 0 _ (omega arith), (early 2 1 _ (omega arith), (early 4 _ _ (omega arith), (early 5 _ _ (omega arith), (early 6 _ _ (omega arith), (found_none Early _ fine.0, tt)))))))));
      loop_call = λ r. outcome_number Early (loops_check points faces r) _ _ _
          (found_first Early _ (early 1 0 _ (omega arith), (early 1 1 _ (omega arith), (early 2 0 _ (omega arith), (early 2 1 _ (omega arith), (early 4 _ _ (omega arith), (early 5 _ _ (omega arith), (early 6 _ _ (omega arith), (found_none Early _ fine.0, (found_none Early _ fine.1, tt))))))))));
    }
  where
    fine : (no7 (length points / 3) (faces_of faces) ≡ ok) × (no8 (length points / 3) (faces_of faces) ≡ ok)
    fine = yes_fine (faces_of faces) (check_sound (length points / 3) faces work e) (length points / 3)

-- ---- a repair with options 63 that answers n: n's entries say how much of the rooms is the mesh, with the origin of each face

module _ (points : List Float) (faces : List ℕ) (s : Float) (r : RepairRooms) (n : List ℕ) where
  -- the points that it left in their room, flat
  abbrev pub points_left : List Float
  points_left = take (get_or n 0 0) (repair points faces s 63 r).rooms.out_points

  -- the faces that it left in theirs, flat
  abbrev pub faces_left : List ℕ
  faces_left = take (get_or n 1 0) (repair points faces s 63 r).rooms.out_faces

  -- the origins that it left in theirs, one a face
  abbrev pub origins_left : List ℕ
  origins_left = take (get_or n 3 0) (repair points faces s 63 r).rooms.origins

  -- the mesh that it left, with the report
  abbrev pub left : State
  left = record { points = points_of points_left; faces = faces_with faces_left origins_left; report = take (get_or n 2 0) (repair points faces s 63 r).rooms.report }

-- demand 3 of what an accepted repair left in its rooms
pub record Called3 (points : List Float) (faces : List ℕ) (s : Float) (r : RepairRooms) (n : List ℕ) : Type 0 where
  pub holds : Demand3 (points_of points) (faces_of faces) (left points faces s r n)
  -- corners are points, and no face repeats one
  pub beside : Beside (left points faces s r n)
  -- it fits in the rooms stated for it
  pub points_fit : length (left points faces s r n).points ≤ length points / 3 + 3 * (length faces / 3)
  pub faces_fit : length (left points faces s r n).faces ≤ length faces / 3
  -- given enough room, the edge call accepts it
  pub edge_call :
      (q : EdgesRooms) → EdgesEnough (length (points_left points faces s r n) / 3) (length (faces_left points faces s r n) / 3) q
      → (k : List ℕ) × ((find_edges (points_left points faces s r n) (faces_left points faces s r n) q).answer ≡ accepted k)
  -- and so does the loop call
  pub loop_call :
      (q : LoopsRooms) → LoopsEnough (length (points_left points faces s r n) / 3) (length (faces_left points faces s r n) / 3) q
      → (k : List ℕ) × ((find_loops (points_left points faces s r n) (faces_left points faces s r n) q).answer ≡ accepted k)
  -- given enough work room, the edge check says yes to it
  pub check_call : SaysYes (length (points_left points faces s r n) / 3) (faces_left points faces s r n)
  -- each boundary edge is in exactly one loop
  pub edge_loops : Looped (length (points_left points faces s r n) / 3) (faces_of (faces_left points faces s r n))

module _ (points : List Float) (faces : List ℕ) (s : Float) (r : RepairRooms) (n : List ℕ) (e : (repair points faces s 63 r).answer ≡ accepted n) where
  -- what the rules say
  m : State
  m = repaired s 63 (points_of points) (faces_of faces)

  -- it was accepted, so its check found nothing
  check_ok : repair_check points faces s 63 r ≡ ok
  unfolding repair
  check_ok = (outcome_ok (repair_check points faces s 63 r) r _ _ n e).0

  -- demand 3 of what the rules say
  d3 : Demand3 (points_of points) (faces_of faces) m
  unfolding m
  d3 = demand3 points faces s r check_ok

  -- the answer's entries
  counts : 3 * length m.points ∷ 3 * length m.faces ∷ report_counts ∷ length m.faces ∷ [] ≡ n
  unfolding repair m
  counts = (outcome_ok (repair_check points faces s 63 r) r _ _ n e).1

  -- the points room begins with the flat points
  points_are : points_left points faces s r n ≡ flat_points m.points
  unfolding repair m
  points_are =
      ap (λ k. take k (repair points faces s 63 r).rooms.out_points) (ap (λ l. get_or l 0 0) (sym counts))
      ∙ ap (λ o. take (3 * length m.points) o.out_points) (outcome_ok (repair_check points faces s 63 r) r _ _ n e).2
      ∙ filled_front zero64 (3 * (length points / 3 + 3 * (length faces / 3))) (3 * length m.points) (flat_points m.points) r.out_points (length_flat_points m.points)

  -- the faces room begins with the flat faces
  faces_are : faces_left points faces s r n ≡ flat_faces m.faces
  unfolding repair m
  faces_are =
      ap (λ k. take k (repair points faces s 63 r).rooms.out_faces) (ap (λ l. get_or l 1 0) (sym counts))
      ∙ ap (λ o. take (3 * length m.faces) o.out_faces) (outcome_ok (repair_check points faces s 63 r) r _ _ n e).2
      ∙ filled_front 0 (3 * (length faces / 3)) (3 * length m.faces) (flat_faces m.faces) r.out_faces (length_flat_faces m.faces)

  -- the origins room begins with the origins
  origins_are : origins_left points faces s r n ≡ map (λ f. f.origin) m.faces
  unfolding repair m
  origins_are =
      ap (λ k. take k (repair points faces s 63 r).rooms.origins) (ap (λ l. get_or l 3 0) (sym counts))
      ∙ ap (λ o. take (length m.faces) o.origins) (outcome_ok (repair_check points faces s 63 r) r _ _ n e).2
      ∙ filled_front 0 (length faces / 3) (length m.faces) (map (λ f. f.origin) m.faces) r.origins (length-map m.faces (λ f. f.origin))

  -- the report room begins with the report
  report_is : take (get_or n 2 0) (repair points faces s 63 r).rooms.report ≡ m.report
  unfolding repair m
  report_is =
      ap (λ k. take k (repair points faces s 63 r).rooms.report) (ap (λ l. get_or l 2 0) (sym counts))
      ∙ ap (λ o. take report_counts o.report) (outcome_ok (repair_check points faces s 63 r) r _ _ n e).2
      ∙ filled_front 0 report_counts report_counts m.report r.report (sums true true true s (points_of points) (faces_of faces)).whole

  -- what is left is what the rules say
  left_is : left points faces s r n ≡ m
  left_is = λ i. record { points = p i; faces = f i; report = report_is i }
    where
      p : points_of (points_left points faces s r n) ≡ m.points
      p = ap points_of points_are ∙ points_flat m.points

      f : faces_with (faces_left points faces s r n) (origins_left points faces s r n) ≡ m.faces
      f = (λ i. faces_with (faces_are i) (origins_are i)) ∙ with_flat m.faces

  -- all points are used, so there are at most three a face
  few : (length m.points ≤ length points / 3 + 3 * (length faces / 3)) × (length m.faces ≤ length faces / 3)
  few =
      let f = length_faces faces in
      let k = few_points (length m.points) m.faces d3.every_used in
      (omega (arith, d3.faces_add_up), omega (arith, d3.faces_add_up))

  -- the number of points left
  p_is : length (points_left points faces s r n) / 3 ≡ length m.points
  p_is = let a = ap length points_are in let b = length_flat_points m.points in omega arith

  -- the number of faces left
  f_is : length (faces_left points faces s r n) / 3 ≡ length m.faces
  f_is = let a = ap length faces_are in let b = length_flat_faces m.faces in omega arith

  -- a check of what is left finds nothing where it finds nothing of what the rules say
  left_ok : (check : List Float → List ℕ → Check) (Enough : ℕ → ℕ → Type 0) → (Enough (length m.points) (length m.faces) → check (flat_points m.points) (flat_faces m.faces) ≡ ok)
      → Enough (length (points_left points faces s r n) / 3) (length (faces_left points faces s r n) / 3) → check (points_left points faces s r n) (faces_left points faces s r n) ≡ ok
  left_ok check Enough accepts enough =
      ap (λ l. check l (faces_left points faces s r n)) points_are ∙ ap (λ l. check (flat_points m.points) l) faces_are
      ∙ accepts (subst (λ P. Enough P (length m.faces)) p_is (subst (λ F. Enough (length (points_left points faces s r n) / 3) F) f_is enough))

  -- the edge check says yes to what is left
  left_yes : SaysYes (length (points_left points faces s r n) / 3) (faces_left points faces s r n)
  unfolding m
  left_yes = rw (p_is, faces_are) (check_says_yes points faces s r check_ok)

  -- demand 3 in the words of the calls
  pub called3 : Called3 points faces s r n
  unfolding find_edges find_loops
  called3 =
      record {
        holds = subst (Demand3 (points_of points) (faces_of faces)) (sym left_is) d3;
        beside = subst Beside (sym left_is) (unfold m in beside3 points faces s r check_ok);
        points_fit = subst (λ k. length k.points ≤ length points / 3 + 3 * (length faces / 3)) (sym left_is) few.0;
        faces_fit = subst (λ k. length k.faces ≤ length faces / 3) (sym left_is) few.1;
        edge_call = λ q enough. (_, outcome_is (edges_check (points_left points faces s r n) (faces_left points faces s r n) q) q _ _ (left_ok (λ ps xs. edges_check ps xs q) (λ P F. EdgesEnough P F q) (d3.edges_accepted q) enough));
        loop_call = λ q enough. (_, outcome_is (loops_check (points_left points faces s r n) (faces_left points faces s r n) q) q _ _ (left_ok (λ ps xs. loops_check ps xs q) (λ P F. LoopsEnough P F q) (d3.loops_accepted q) enough));
        check_call = left_yes;
        edge_loops = subst (λ P. Looped P (faces_of (faces_left points faces s r n))) (sym p_is) (subst (λ l. Looped (length m.points) (faces_of l)) (sym faces_are) (unfold m in flat_looped true true true points faces s r check_ok));
      }
