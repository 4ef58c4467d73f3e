-- What a repair of a job gives back is what is printed: the mesh in its rooms, or a refusal. Assumes nothing.
use Rattle.std.specs.Prelude.{Ok, Err}
use mathlib.Core.Path.{◌≡◌, refl, sym, ap, subst, ◌∙◌}
use mathlib.Core.List.{List, [], ◌∷◌, ◌++◌, map}
use Prim.Native.Nat.{ℕ, ◌+◌, ◌*◌, ◌/◌, ◌≤◌}
use native.Mathlib.Omega.{arith}
use lib.ListN.{length, get_or, take}
use lib.Seq.{take_all}
use lib.Ieee.{Float, binary64, nan, to_bits}
use Rattle.byte_rows.specs.Put.{Puts}
use Rattle.rules.specs.Mesh.{Point, Face, points_of, faces_of, flat_points, flat_faces, coordinates, corners, zero64}
use Rattle.rules.specs.Lists.{each}
use Rattle.rules.specs.Line.{bytes, decimal}
use Rattle.rules.specs.State.{State, report_counts}
use Rattle.rules.specs.Refusal.{Check, ok, no}
use Rattle.rules.specs.Rooms.{Answer, accepted, refused, Outcome, outcome}
use Rattle.rules.specs.Repair.{repaired}
use Rattle.rules.specs.RepairCall.{RepairRooms, repair_check, repair}
use Rattle.rules.specs.Text.{Job, hex, text_line, job_check, job_lines, mesh_lines, refusal_line}
use Rattle.rule_laws.proofs.Called.{outcome_ok, filled_front}
use Rattle.rule_laws.proofs.Decided.{decided_all}
use Rattle.rule_laws.proofs.Flat.{points_flat, length_flat_faces, length_flat_points}
use Rattle.rule_laws.proofs.Relabel.{Alike, bare, bare_alike, flat_alike}
use Rattle.rule_laws.proofs.Rising.{all_at}
use Rattle.repairing.proofs.Fitting.{Fits, repair_fits}
use Rattle.repair.specs.declared.Repaired.{Repaired}
use Rattle.refuse.specs.declared.Refusal.{Refusal}
use Rattle.refuse.specs.Verdicts.{number_of}
use Rattle.repair.specs.Answers.{rooms_of, outcome_of}
use Rattle.text_out.specs.Printed.{MeshAsks, Numbers, state_of}
use Rattle.mend_text.specs.Job.{job_of, lines, MendAsks}
use Rattle.mend_text.proofs.Known.{IsNumber, repaired_known}
use Rattle.mend_text.proofs.Deciding.{Few, Roomy, checks_as_job}

-- the number of a refusal
number : Answer → ℕ
number (accepted k) = 0
number (refused n p) = n

-- telling the two answers apart
is_refused : Answer → Type 0
is_refused (accepted k) = ⊥
is_refused (refused n p) = Unit {0}

-- a face is printed by its corners alone
face_lines : (line : List ℕ → List ℕ) (fs : List Face) → each (λ f. line (corners f)) (map bare fs) ≡ each (λ f. line (corners f)) fs
unfolding each
face_lines line [] = refl
face_lines line (f ∷ fs) = ap (λ l. line (corners f) ++ l) (face_lines line fs)

-- so a mesh is printed the same whatever the origins are
lines_alike : (ps : List Point) (gs fs : List Face) (report : List ℕ) → Alike gs fs → mesh_lines (record { points = ps; faces = gs; report = report }) ≡ mesh_lines (record { points = ps; faces = fs; report = report })
unfolding mesh_lines
lines_alike ps gs fs report h =
    let line : List ℕ → List ℕ = λ c. text_line (bytes "f") (map decimal c) in
    let e : each (λ f. line (corners f)) gs ≡ each (λ f. line (corners f)) fs = sym (face_lines line gs) ∙ ap (each (λ f. line (corners f))) (bare_alike gs fs h) ∙ face_lines line fs in
    ap (λ l. each (λ p. text_line (bytes "p") (map (λ x. hex 16 (to_bits binary64 x)) (coordinates p))) ps ++ l ++ text_line (bytes "r") (map decimal report)) e

-- a check that refuses n is printed so
refused_lines : (j : Job) (c : Check) (r : RepairRooms) (k : List ℕ) (after : RepairRooms) (n p : ℕ) → refused n p ≡ (outcome c r k after).answer → job_lines j c ≡ refusal_line n
unfolding outcome number is_refused job_lines
refused_lines j ok r k after n p e = absurd (subst is_refused e tt)
refused_lines j (no m q) r k after n p e = ap refusal_line (sym (ap number e))

module _ (s : Float) (o : ℕ) {points : List Float} {faces : List ℕ} {out : List ℕ} (asks : MendAsks points faces out) {r : RepairRooms} (roomy : Roomy r) where
  -- the job is small
  few : Few points faces
  few = record { whole_points = asks.whole_points; whole_faces = asks.whole_faces; few_points = asks.few_points; few_faces = asks.few_faces }

  -- what the rules say
  m : State
  m = repaired s o (points_of points) (faces_of faces)

  -- the repair's check is the job's
  same : repair_check points faces s o r ≡ job_check (job_of o s points faces)
  same = checks_as_job points faces s o r few roomy

  -- a refused repair is a refused job
  pub is_refusal :
      {n p : ℕ} {rooms : RepairRooms} → record { answer = refused n p; rooms = rooms } ≡ repair points faces s o r
      → lines o s points faces ≡ refusal_line n
  unfolding repair
  is_refusal {n} {p} e = ap (job_lines (job_of o s points faces)) (sym same) ∙ refused_lines (job_of o s points faces) (repair_check points faces s o r) r _ _ n p (ap (λ (t : Outcome RepairRooms). t.answer) e)

  module _ {t : Repaired} {ps : List Float} {xs rs os w : List ℕ} (e : outcome_of (Ok t) ps xs rs os w ≡ repair points faces s o r) where
    -- how many entries stand in the points, the faces and the origins room
    abbrev a : ℕ
    a = t.points

    abbrev b : ℕ
    b = t.faces

    abbrev k : ℕ
    k = t.origins

    -- its parts
    parts : (repair_check points faces s o r ≡ ok) × (3 * length m.points ∷ 3 * length m.faces ∷ report_counts ∷ length m.faces ∷ [] ≡ a ∷ b ∷ report_counts ∷ k ∷ [])
    unfolding repair m
    parts = let t = outcome_ok (repair_check points faces s o r) r _ _ (a ∷ b ∷ report_counts ∷ k ∷ []) (ap (λ (t : Outcome RepairRooms). t.answer) (sym e)) in (t.0, t.1)

    a_is : 3 * length m.points ≡ a
    a_is = ap (λ (l : List ℕ). get_or l 0 0) parts.1

    b_is : 3 * length m.faces ≡ b
    b_is = ap (λ (l : List ℕ). get_or l 1 0) parts.1

    -- how much there is
    fits : Fits (length points / 3 + 3 * (length faces / 3)) (length faces / 3) m
    unfolding m
    fits = repair_fits points faces s o r parts.0

    -- the rooms after it
    after : RepairRooms
    after = (repair points faces s o r).rooms

    rooms_are : rooms_of ps xs rs os w ≡ after
    unfolding after
    rooms_are = ap (λ (t : Outcome RepairRooms). t.rooms) e

    points_are : take a ps ≡ flat_points m.points
    unfolding repair m after
    points_are =
        ap (λ (t : RepairRooms). take a t.out_points) (rooms_are ∙ (outcome_ok (repair_check points faces s o r) r _ _ (a ∷ b ∷ report_counts ∷ k ∷ []) (ap (λ (t : Outcome RepairRooms). t.answer) (sym e))).2)
        ∙ filled_front zero64 (3 * (length points / 3 + 3 * (length faces / 3))) a (flat_points m.points) r.out_points (length_flat_points m.points ∙ a_is)

    faces_are : take b xs ≡ flat_faces m.faces
    unfolding repair m after
    faces_are =
        ap (λ (t : RepairRooms). take b t.out_faces) (rooms_are ∙ (outcome_ok (repair_check points faces s o r) r _ _ (a ∷ b ∷ report_counts ∷ k ∷ []) (ap (λ (t : Outcome RepairRooms). t.answer) (sym e))).2)
        ∙ filled_front 0 (3 * (length faces / 3)) b (flat_faces m.faces) r.out_faces (length_flat_faces m.faces ∙ b_is)

    report_is : take report_counts rs ≡ m.report
    unfolding repair m after
    report_is =
        ap (λ (t : RepairRooms). take report_counts t.report) (rooms_are ∙ (outcome_ok (repair_check points faces s o r) r _ _ (a ∷ b ∷ report_counts ∷ k ∷ []) (ap (λ (t : Outcome RepairRooms). t.answer) (sym e))).2)
        ∙ filled_front 0 report_counts report_counts m.report r.report fits.kept.report

    -- the fronts of the rooms are within them
    pub points_end : a ≤ 768
    points_end = omega (arith, a_is, fits.points, asks.few_points, asks.few_faces)

    pub faces_end : b ≤ 192
    faces_end = omega (arith, b_is, fits.kept.faces, asks.few_faces)

    -- the coordinates are numbers
    numbers : Numbers (take a ps)
    unfolding m repair_check
    numbers =
        subst Numbers (sym points_are)
        (record { each_is = λ i l. all_at IsNumber (flat_points m.points) nan i (repaired_known s o (points_of points) (faces_of faces) (decided_all _ parts.0).1.1.1.1.1.1.0) l })

    -- what writing them asks
    pub mesh_asks : length rs ≡ report_counts → MeshAsks out (take a ps) (take b xs) rs
    mesh_asks long =
        let lp : length (take a ps) ≡ a = ap length points_are ∙ length_flat_points m.points ∙ a_is in
        let lf : length (take b xs) ≡ b = ap length faces_are ∙ length_flat_faces m.faces ∙ b_is in
        let pe = points_end in
        let fe = faces_end in
        record { room = omega (arith, asks.room); few_points = omega arith; few_faces = omega arith; numbers = numbers }

    -- what is then printed is the job's answer
    pub is_mended : length rs ≡ report_counts → lines o s points faces ≡ mesh_lines (state_of (take a ps) (take b xs) rs)
    unfolding m job_lines
    is_mended long =
        ap (job_lines (job_of o s points faces)) (sym same ∙ parts.0)
        ∙ sym (ap mesh_lines (λ i. record { points = p i; faces = faces_of (faces_are i); report = q i }) ∙ lines_alike m.points (faces_of (flat_faces m.faces)) m.faces m.report (flat_alike m.faces))
      where
        p : points_of (take a ps) ≡ m.points
        p = ap points_of points_are ∙ points_flat m.points

        q : rs ≡ m.report
        q = sym (take_all report_counts rs (omega (arith, long))) ∙ report_is

-- ---- in the rooms that the program brings

-- their lengths
pub record Lent (ps : List Float) (xs rs os w : List ℕ) : Type 0 where
  pub points : length ps ≡ 768
  pub faces : length xs ≡ 192
  pub report : length rs ≡ report_counts
  pub origins : length os ≡ 64
  pub work : length w ≡ 5184

module _ (s : Float) (o : ℕ) {points : List Float} {faces : List ℕ} {out : List ℕ} (asks : MendAsks points faces out) {ps₀ : List Float} {xs₀ rs₀ os₀ w₀ : List ℕ} (lent : Lent ps₀ xs₀ rs₀ os₀ w₀) where
  -- they are long enough
  roomy : Roomy (rooms_of ps₀ xs₀ rs₀ os₀ w₀)
  roomy = record { points = omega (arith, lent.points); faces = omega (arith, lent.faces); report = omega (arith, lent.report); origins = omega (arith, lent.origins); work = omega (arith, lent.work) }

  -- the line of a refusal is the job's answer
  pub puts_refusal :
      {ps : List Float} {xs rs os w : List ℕ} (t : Refusal) → outcome_of (Err t) ps xs rs os w ≡ repair points faces s o (rooms_of ps₀ xs₀ rs₀ os₀ w₀)
      → {w₁ w₂ : List ℕ} {end : ℕ} → Puts w₁ 0 (refusal_line (number_of t)) w₂ end → Puts w₁ 0 (lines o s points faces) w₂ end
  puts_refusal t e {w₁} {w₂} {end} g = subst (λ l. Puts w₁ 0 l w₂ end) (sym (is_refusal s o asks roomy e)) g

  module _ {ps : List Float} {xs rs os w : List ℕ} {t : Repaired} (e : outcome_of (Ok t) ps xs rs os w ≡ repair points faces s o (rooms_of ps₀ xs₀ rs₀ os₀ w₀)) where
    -- the mesh is in the rooms
    pub points_in : length ps ≡ length ps₀ → t.points ≤ length ps
    points_in l = omega (arith, points_end s o asks roomy e, lent.points)

    pub faces_in_is : length xs ≡ length xs₀ → t.faces ≤ length xs
    faces_in_is l = omega (arith, faces_end s o asks roomy e, lent.faces)

    -- what writing it asks
    pub writes : length rs ≡ length rs₀ → MeshAsks out (take t.points ps) (take t.faces xs) rs
    writes l = mesh_asks s o asks roomy e (l ∙ lent.report)

    -- its lines are the job's answer
    pub puts_mesh :
        length rs ≡ length rs₀ → {w₁ w₂ : List ℕ} {end : ℕ} → Puts w₁ 0 (mesh_lines (state_of (take t.points ps) (take t.faces xs) rs)) w₂ end
        → Puts w₁ 0 (lines o s points faces) w₂ end
    puts_mesh l {w₁} {w₂} {end} g = subst (λ z. Puts w₁ 0 z w₂ end) (sym (is_mended s o asks roomy e (l ∙ lent.report))) g
