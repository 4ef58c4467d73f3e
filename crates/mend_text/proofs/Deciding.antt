-- A repair of a job in rooms that are long enough is refused as the job is: 1, 2 and 6 do not arise. Assumes nothing.
use mathlib.Core.Path.{◌≡◌, refl, ◌∙◌}
use mathlib.Core.List.{List, [], ◌∷◌, ◌++◌}
use Prim.Native.Nat.{ℕ, ◌+◌, ◌*◌, ◌/◌, ◌%◌, ◌≤◌}
use native.Mathlib.Omega.{arith}
use borrow.Author.Tests.{eq-eqb, le-ltb, le-leb}
use lib.Dec.{eqb, leb, ltb}
use lib.ListN.{length, get_or}
use lib.Ieee.{Float}
use Rattle.rules.specs.Lists.{below}
use Rattle.rules.specs.Mesh.{points_of, faces_of}
use Rattle.rules.specs.Refusal.{Check, ok, no, decided, no1, no2, no3_threshold, no3_options, no4, no5, no6, most_points, most_faces}
use Rattle.rules.specs.State.{report_counts}
use Rattle.rules.specs.Rooms.{work_room}
use Rattle.rules.specs.RepairCall.{repair_rooms, RepairRooms, repair_check}
use Rattle.rules.specs.Text.{job_check}
use Rattle.rule_laws.proofs.Decided.{decided_none, decided_ok, unless_is}
use Rattle.rule_laws.proofs.Firsts.{at_first_ok}
use Rattle.mend_text.specs.Job.{job_of}

-- of whole points and faces, and at most 64 of each
pub record Few (points : List Float) (faces : List ℕ) : Type 0 where
  pub whole_points : length points % 3 ≡ 0
  pub whole_faces : length faces % 3 ≡ 0
  pub few_points : length points ≤ 192
  pub few_faces : length faces ≤ 192

-- rooms for 64 points and 64 faces
pub record Roomy (r : RepairRooms) : Type 0 where
  pub points : 768 ≤ length r.out_points
  pub faces : 192 ≤ length r.out_faces
  pub report : report_counts ≤ length r.report
  pub origins : 64 ≤ length r.origins
  pub work : 5184 ≤ length r.work

-- a last check that finds nothing
decided_last : (cs : List Check) → decided (cs ++ (ok ∷ [])) ≡ decided cs
unfolding decided
decided_last [] = refl
decided_last (ok ∷ cs) = decided_last cs
decided_last (no n p ∷ cs) = refl

-- refusal 6 is not given
rooms_ok : (P F : ℕ) (r : RepairRooms) → P ≤ 64 → F ≤ 64 → Roomy r → no6 (repair_rooms P F) (length r.out_points ∷ length r.out_faces ∷ length r.report ∷ length r.origins ∷ length r.work ∷ []) ≡ ok
unfolding no6 repair_rooms work_room below
rooms_ok P F r p f e =
    at_first_ok 6 (λ k. ltb (get_or given k 0) (get_or (repair_rooms P F) k 0)) (below 5)
    (le-ltb (length r.out_points) (3 * (P + 3 * F)) (omega (arith, e.points)), (le-ltb (length r.out_faces) (3 * F) (omega (arith, e.faces)), (le-ltb (length r.report) report_counts e.report, (le-ltb (length r.origins) F (omega (arith, e.origins)), (le-ltb (length r.work) (16 * P + 64 * F + 64) (omega (arith, e.work)), tt)))))
  where
    given : List ℕ
    given = length r.out_points ∷ length r.out_faces ∷ length r.report ∷ length r.origins ∷ length r.work ∷ []

-- the job's checks decide
pub checks_as_job : (points : List Float) (faces : List ℕ) (s : Float) (options : ℕ) (r : RepairRooms) → Few points faces → Roomy r → repair_check points faces s options r ≡ job_check (job_of options s points faces)
unfolding repair_check job_check no1 no2
checks_as_job points faces s options r q e =
    let P = length points / 3 in
    let F = length faces / 3 in
    let own = no3_threshold s ∷ no3_options options ∷ no4 (points_of points) ∷ no5 P (faces_of faces) ∷ [] in
    rw (rooms_ok P F r (omega (arith, q.few_points)) (omega (arith, q.few_faces)) e)
    (decided_none (no1 0 (length points) ∷ no1 1 (length faces) ∷ no2 0 P most_points ∷ no2 1 F most_faces ∷ []) (own ++ (ok ∷ []))
    (decided_ok _ (points_whole, (faces_whole, (points_few, (faces_few, tt)))))
    ∙ decided_last own)
  where
    points_whole : no1 0 (length points) ≡ ok
    points_whole = unless_is 1 0 (eqb (length points % 3) 0) (eq-eqb (length points % 3) 0 q.whole_points)

    faces_whole : no1 1 (length faces) ≡ ok
    faces_whole = unless_is 1 1 (eqb (length faces % 3) 0) (eq-eqb (length faces % 3) 0 q.whole_faces)

    points_few : no2 0 (length points / 3) most_points ≡ ok
    points_few = unless_is 2 0 (leb (length points / 3) most_points) (le-leb (length points / 3) most_points (omega (arith, q.few_points)))

    faces_few : no2 1 (length faces / 3) most_faces ≡ ok
    faces_few = unless_is 2 1 (leb (length faces / 3) most_faces) (le-leb (length faces / 3) most_faces (omega (arith, q.few_faces)))
