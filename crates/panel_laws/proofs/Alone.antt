-- One repair does not depend on what its rooms held if they are long enough, and how long the parts are that it shares. Assumes nothing.
use mathlib.Core.Path.{◌≡◌, refl, sym, ap, ◌∙◌}
use mathlib.Core.List.{List, [], ◌∷◌, map}
use Prim.Native.Nat.{ℕ, ◌+◌, ◌*◌, ◌/◌, ◌≤◌}
use native.Mathlib.Omega.{arith}
use borrow.Author.Tests.{le-ltb}
use lib.Dec.{ltb}
use lib.Ieee.{Float}
use lib.ListN.{length, get_or, take, length-map, length-replicate}
use Rattle.rules.specs.Lists.{below}
use Rattle.rules.specs.Mesh.{points_of, faces_of, flat_points, flat_faces, zero64}
use Rattle.rules.specs.State.{State, report_counts}
use Rattle.rules.specs.Refusal.{Check, ok, no, decided, no1, no2, no3_threshold, no3_options, no4, no5, no6, most_points, most_faces}
use Rattle.rules.specs.Rooms.{work_room, accepted, Outcome, outcome}
use Rattle.rules.specs.Repair.{repaired}
use Rattle.rules.specs.RepairCall.{RepairRooms, repair_rooms, repair_check, repair}
use Rattle.rules.specs.PanelCall.{own_rooms, one_call, shared, its_points, its_faces, its_counts, its_origins}
use Rattle.rule_laws.proofs.Firsts.{at_first_ok}
use Rattle.rule_laws.proofs.Flat.{length_flat_points, length_flat_faces}
use Rattle.rule_laws.proofs.Called.{outcome_ok, filled_front}
use Rattle.repairing.proofs.Fitting.{repair_fits}

-- ---- rooms that are long enough

-- rooms as long as a repair of P points and F faces states, or longer
pub record LongEnough (P F : ℕ) (r : RepairRooms) : Type 0 where
  pub room_points : 3 * (P + 3 * F) ≤ length r.out_points
  pub room_faces : 3 * F ≤ length r.out_faces
  pub room_report : report_counts ≤ length r.report
  pub room_origins : F ≤ length r.origins
  pub room_work : work_room P F ≤ length r.work

-- 6 finds nothing
pub long_six :
    (P F : ℕ) (r : RepairRooms) → LongEnough P F r
    → no6 (repair_rooms P F) (length r.out_points ∷ length r.out_faces ∷ length r.report ∷ length r.origins ∷ length r.work ∷ []) ≡ ok
unfolding no6 repair_rooms below
long_six P F r e =
    at_first_ok 6 (λ k. ltb (get_or given k 0) (get_or (repair_rooms P F) k 0)) (below 5)
    (le-ltb (length r.out_points) (3 * (P + 3 * F)) e.room_points, (le-ltb (length r.out_faces) (3 * F) e.room_faces, (le-ltb (length r.report) report_counts e.room_report, (le-ltb (length r.origins) F e.room_origins, (le-ltb (length r.work) (work_room P F) e.room_work, tt)))))
  where
    given : List ℕ
    given = length r.out_points ∷ length r.out_faces ∷ length r.report ∷ length r.origins ∷ length r.work ∷ []

-- a mesh's own rooms are long enough
pub own_long : (P F : ℕ) → LongEnough P F (own_rooms P F)
unfolding own_rooms
own_long P F =
    record {
      room_points = omega (arith, length-replicate (3 * (P + 3 * F)) zero64);
      room_faces = omega (arith, length-replicate {A = ℕ} (3 * F) 0);
      room_report = omega (arith, length-replicate {A = ℕ} report_counts 0);
      room_origins = omega (arith, length-replicate {A = ℕ} F 0);
      room_work = omega (arith, length-replicate {A = ℕ} (work_room P F) 0);
    }

-- ---- what an outcome shares

-- an answer, where the check finds nothing; else none
unfoldable pub if_ok : {A : Type 0} → Check → List A → List A
if_ok ok answer = answer
if_ok (no n p) answer = []

-- what is shared of a room is the answer that stands at its front
pub shared_is :
    {R A : Type 0} (k : ℕ) (room : R → List A) (answer : List A) (c : Check) (given : R) (entries : List ℕ) (after : R)
    → (c ≡ ok → take (get_or entries k 0) (room after) ≡ answer)
    → shared k (outcome c given entries after).answer (room (outcome c given entries after).rooms) ≡ if_ok c answer
unfolding shared outcome if_ok
shared_is k room answer ok given entries after h = h refl
shared_is k room answer (no n p) given entries after h = refl

-- the same check and the same entries give the same answer, whatever the rooms are
pub same_outcome : {R : Type 0} (c d : Check) (r q : R) (entries : List ℕ) (a b : R) → c ≡ d → (outcome c r entries a).answer ≡ (outcome d q entries b).answer
unfolding outcome
same_outcome ok d r q entries a b e = rw (← e)
same_outcome (no n p) d r q entries a b e = rw (← e)

-- an answer that is at most so long where the check finds nothing is so in any case
if_ok_fits : {A : Type 0} (c : Check) (answer : List A) (n : ℕ) → (c ≡ ok → length answer ≤ n) → length (if_ok c answer) ≤ n
unfolding if_ok
if_ok_fits ok answer n h = h refl
if_ok_fits (no m p) answer n h = omega arith

-- where the check finds nothing it is the answer
pub ok_is : {A : Type 0} {c : Check} → c ≡ ok → (answer : List A) → if_ok c answer ≡ answer
unfolding if_ok
ok_is e answer = rw e

-- what a repair of P points and F faces shares is at most as long as the rooms stated for it
pub record Shares (P F : ℕ) (o : Outcome RepairRooms) : Type 0 where
  pub points_fit : length (its_points o) ≤ 3 * (P + 3 * F)
  pub faces_fit : length (its_faces o) ≤ 3 * F
  pub counts_fit : length (its_counts o) ≤ report_counts
  pub origins_fit : length (its_origins o) ≤ F

-- the entries of an accepted answer say how long its parts are: points by three, faces by three, a whole report, an origin a face
pub record Measured (a b c d : ℕ) (o : Outcome RepairRooms) : Type 0 where
  pub points_long : length (its_points o) ≡ a
  pub faces_long : length (its_faces o) ≡ b
  pub counts_long : length (its_counts o) ≡ c
  pub origins_long : length (its_origins o) ≡ d
  pub counts_are : c ≡ report_counts
  pub whole_points : a ≡ 3 * (a / 3)
  pub whole_faces : b ≡ 3 * d

-- ---- one repair

module _ (points : List Float) (faces : List ℕ) (s : Float) (options : ℕ) where
  -- what the rules say
  abbrev pub mended : State
  mended = repaired s options (points_of points) (faces_of faces)

  -- in rooms that are long enough it is refused as in its own
  pub same_check :
      (r : RepairRooms) → LongEnough (length points / 3) (length faces / 3) r
      → repair_check points faces s options r ≡ repair_check points faces s options (own_rooms (length points / 3) (length faces / 3))
  unfolding repair_check
  same_check r e =
      let P = length points / 3 in
      let F = length faces / 3 in
      ap (λ c. decided (no1 0 (length points) ∷ no1 1 (length faces) ∷ no2 0 P most_points ∷ no2 1 F most_faces ∷ no3_threshold s ∷ no3_options options ∷ no4 (points_of points) ∷ no5 P (faces_of faces) ∷ c ∷ []))
      (long_six P F r e ∙ sym (long_six P F (own_rooms P F) (own_long P F)))

  -- and answers the same
  pub same_answer :
      (r : RepairRooms) → LongEnough (length points / 3) (length faces / 3) r
      → (repair points faces s options r).answer ≡ (one_call s options points faces).answer
  unfolding repair one_call
  same_answer r e = same_outcome _ _ _ _ _ _ _ (same_check r e)

  module _ (r : RepairRooms) where
    -- the points that it shares are those that the rules say
    pub its_points_are : its_points (repair points faces s options r) ≡ if_ok (repair_check points faces s options r) (flat_points mended.points)
    unfolding its_points repair
    its_points_are =
        shared_is 0 (λ (q : RepairRooms). q.out_points) (flat_points mended.points) (repair_check points faces s options r) r _ _
        (λ e. filled_front zero64 _ (3 * length mended.points) (flat_points mended.points) r.out_points (length_flat_points mended.points))

    -- so are the faces
    pub its_faces_are : its_faces (repair points faces s options r) ≡ if_ok (repair_check points faces s options r) (flat_faces mended.faces)
    unfolding its_faces repair
    its_faces_are =
        shared_is 1 (λ (q : RepairRooms). q.out_faces) (flat_faces mended.faces) (repair_check points faces s options r) r _ _
        (λ e. filled_front 0 _ (3 * length mended.faces) (flat_faces mended.faces) r.out_faces (length_flat_faces mended.faces))

    -- so are the counts
    pub its_counts_are : its_counts (repair points faces s options r) ≡ if_ok (repair_check points faces s options r) mended.report
    unfolding its_counts repair
    its_counts_are =
        shared_is 2 (λ (q : RepairRooms). q.report) mended.report (repair_check points faces s options r) r _ _
        (λ e. filled_front 0 _ report_counts mended.report r.report (repair_fits points faces s options r e).kept.report)

    -- so are the origins
    pub its_origins_are : its_origins (repair points faces s options r) ≡ if_ok (repair_check points faces s options r) (map (λ f. f.origin) mended.faces)
    unfolding its_origins repair
    its_origins_are =
        shared_is 3 (λ (q : RepairRooms). q.origins) (map (λ f. f.origin) mended.faces) (repair_check points faces s options r) r _ _
        (λ e. filled_front 0 _ (length mended.faces) (map (λ f. f.origin) mended.faces) r.origins (length-map mended.faces (λ f. f.origin)))

  module _ (r : RepairRooms) (e : repair_check points faces s options r ≡ ok) where
    -- where its check finds nothing it shares the points that the rules say
    pub accepted_points : its_points (repair points faces s options r) ≡ flat_points mended.points
    accepted_points = its_points_are r ∙ ok_is e (flat_points mended.points)

    -- the faces
    pub accepted_faces : its_faces (repair points faces s options r) ≡ flat_faces mended.faces
    accepted_faces = its_faces_are r ∙ ok_is e (flat_faces mended.faces)

    -- the counts
    pub accepted_counts : its_counts (repair points faces s options r) ≡ mended.report
    accepted_counts = its_counts_are r ∙ ok_is e mended.report

    -- and the origins
    pub accepted_origins : its_origins (repair points faces s options r) ≡ map (λ f. f.origin) mended.faces
    accepted_origins = its_origins_are r ∙ ok_is e (map (λ f. f.origin) mended.faces)

    -- three entries a point
    pub points_number : length (its_points (repair points faces s options r)) ≡ 3 * length mended.points
    points_number = ap length accepted_points ∙ length_flat_points mended.points

    -- three a face
    pub faces_number : length (its_faces (repair points faces s options r)) ≡ 3 * length mended.faces
    faces_number = ap length accepted_faces ∙ length_flat_faces mended.faces

    -- a whole report
    pub counts_number : length (its_counts (repair points faces s options r)) ≡ report_counts
    counts_number = ap length accepted_counts ∙ (repair_fits points faces s options r e).kept.report

    -- one a face
    pub origins_number : length (its_origins (repair points faces s options r)) ≡ length mended.faces
    origins_number = ap length accepted_origins ∙ length-map mended.faces (λ f. f.origin)

  -- ---- the same in all rooms that are long enough

  module _ (r : RepairRooms) (e : LongEnough (length points / 3) (length faces / 3) r) where
    -- its points are those of its own call
    pub same_points : its_points (repair points faces s options r) ≡ its_points (one_call s options points faces)
    unfolding one_call
    same_points = its_points_are r ∙ ap (λ c. if_ok c (flat_points mended.points)) (same_check r e) ∙ sym (its_points_are (own_rooms (length points / 3) (length faces / 3)))

    -- so are its faces
    pub same_faces : its_faces (repair points faces s options r) ≡ its_faces (one_call s options points faces)
    unfolding one_call
    same_faces = its_faces_are r ∙ ap (λ c. if_ok c (flat_faces mended.faces)) (same_check r e) ∙ sym (its_faces_are (own_rooms (length points / 3) (length faces / 3)))

    -- so are its counts
    pub same_counts : its_counts (repair points faces s options r) ≡ its_counts (one_call s options points faces)
    unfolding one_call
    same_counts = its_counts_are r ∙ ap (λ c. if_ok c mended.report) (same_check r e) ∙ sym (its_counts_are (own_rooms (length points / 3) (length faces / 3)))

    -- so are its origins
    pub same_origins : its_origins (repair points faces s options r) ≡ its_origins (one_call s options points faces)
    unfolding one_call
    same_origins = its_origins_are r ∙ ap (λ c. if_ok c (map (λ f. f.origin) mended.faces)) (same_check r e) ∙ sym (its_origins_are (own_rooms (length points / 3) (length faces / 3)))

  -- ---- how long they are

  -- at most as long as the rooms stated for them
  pub repair_shares : (r : RepairRooms) → Shares (length points / 3) (length faces / 3) (repair points faces s options r)
  repair_shares r =
      let P = length points / 3 in
      let F = length faces / 3 in
      let c = repair_check points faces s options r in
      record {
        points_fit = rw (its_points_are r) (if_ok_fits c (flat_points mended.points) (3 * (P + 3 * F)) (λ e. omega (arith, length_flat_points mended.points, (repair_fits points faces s options r e).points)));
        faces_fit = rw (its_faces_are r) (if_ok_fits c (flat_faces mended.faces) (3 * F) (λ e. omega (arith, length_flat_faces mended.faces, (repair_fits points faces s options r e).kept.faces)));
        counts_fit = rw (its_counts_are r) (if_ok_fits c mended.report report_counts (λ e. omega (arith, (repair_fits points faces s options r e).kept.report)));
        origins_fit = rw (its_origins_are r) (if_ok_fits c (map (λ f. f.origin) mended.faces) F (λ e. omega (arith, length-map mended.faces (λ f. f.origin), (repair_fits points faces s options r e).kept.faces)));
      }

  -- so are those of its own call
  pub one_shares : Shares (length points / 3) (length faces / 3) (one_call s options points faces)
  unfolding one_call
  one_shares = repair_shares (own_rooms (length points / 3) (length faces / 3))

  -- accepted with these entries, it shares as many of each
  pub repair_measured :
      (r : RepairRooms) (a b c d : ℕ) → (repair points faces s options r).answer ≡ accepted (a ∷ b ∷ c ∷ d ∷ [])
      → Measured a b c d (repair points faces s options r)
  unfolding repair
  repair_measured r a b c d h =
      let w = outcome_ok (repair_check points faces s options r) r _ _ (a ∷ b ∷ c ∷ d ∷ []) h in
      let p = points_number r w.0 in
      let f = faces_number r w.0 in
      let n = counts_number r w.0 in
      let o = origins_number r w.0 in
      let ka : 3 * length mended.points ≡ a = ap (λ l. get_or l 0 0) w.1 in
      let kb : 3 * length mended.faces ≡ b = ap (λ l. get_or l 1 0) w.1 in
      let kc : report_counts ≡ c = ap (λ l. get_or l 2 0) w.1 in
      let kd : length mended.faces ≡ d = ap (λ l. get_or l 3 0) w.1 in
      record {
        points_long = p ∙ ka;
        faces_long = f ∙ kb;
        counts_long = n ∙ kc;
        origins_long = o ∙ kd;
        counts_are = sym kc;
        whole_points = omega arith;
        whole_faces = omega arith;
      }

  -- the same of its own call
  pub one_measured :
      (a b c d : ℕ) → (one_call s options points faces).answer ≡ accepted (a ∷ b ∷ c ∷ d ∷ []) → Measured a b c d (one_call s options points faces)
  unfolding one_call
  one_measured = repair_measured (own_rooms (length points / 3) (length faces / 3))
