-- The lines that are written for a repair run on the input one after the other, and leave the repaired mesh. Assumes nothing.
use mathlib.Core.Path.{◌≡◌, refl, ap, ◌∙◌}
use mathlib.Core.Bool.{Bool, true, false, cond}
use mathlib.Core.Option.{Option, some}
use mathlib.Core.List.{List, [], ◌++◌, append_assoc}
use Prim.Native.Nat.{ℕ, ◌≤◌, ◌<◌}
use native.Mathlib.Omega.{arith}
use lib.Ieee.{Float}
use lib.ListN.{length}
use Rattle.rules.specs.Lists.{below, filter, through}
use Rattle.rules.specs.Mesh.{Point, Face, face}
use Rattle.rules.specs.Float.{Shape, good, repeated, thin, shape}
use Rattle.rules.specs.State.{State, start, counted, with_faces, dropped}
use Rattle.rules.specs.Pass1.{pass1, marked1}
use Rattle.rules.specs.Pass2.{pass2, marked2}
use Rattle.rules.specs.Pass3.{pass3, marked3}
use Rattle.rules.specs.Pass4.{pass4, oriented, marked4}
use Rattle.rules.specs.Pass5.{pass5}
use Rattle.rules.specs.Pass6.{pass6, marked6}
use Rattle.rules.specs.Repair.{bit, optional, passes, repaired}
use Rattle.rules.specs.Mending.{Line, for_duplicate, for_edge, for_direction, reason_of, dropped_face, lines1, lines2, lines3, lines4, lines5, lines6, list}
use Rattle.rules.specs.Applying.{Bench, section, finished, bench_of}
use Rattle.rule_laws.proofs.Once.{Inside}
use Rattle.rule_laws.proofs.Rising.{All, Up}
use Rattle.rule_laws.proofs.Turning.{oriented_turned}
use Rattle.rule_laws.proofs.Origins.{origins}
use Rattle.repairing.proofs.Keeping.{Kept, pass1_kept, pass2_kept, pass3_kept, pass4_kept, pass5_kept}
use Rattle.mending_laws.proofs.Running.{bench, run, run_append, Early, early_behind, early_later, Ran, ran_then, ran_none}
use Rattle.mending_laws.proofs.Dropping.{drops_run}
use Rattle.mending_laws.proofs.Exchanging.{exchanges_run}
use Rattle.mending_laws.proofs.Copying.{copies_run}
use Rattle.mending_laws.proofs.Isolating.{isolated_run, finished_six, finished_none}
use Rattle.mending_laws.proofs.Rise.{Rises, pass1_rises, pass2_rises, pass3_rises, oriented_rises, pass4_rises}

-- ---- what a pass finds

module _ (P F : ℕ) where
  -- the input's points, at most its faces, corners that are points, origins that rise
  pub record Ready (m : State) : Type 0 where
    pub kept : Kept F m
    pub rises : Rises F m
    pub points : length m.points ≡ P

  -- pass 1
  pub pass1_ready : (s : Float) (m : State) → Ready m → Ready (pass1 s m)
  pass1_ready s m h = record { kept = pass1_kept s m h.kept; rises = pass1_rises F s m h.rises; points = unfold pass1 dropped counted with_faces in h.points }

  -- pass 2
  pub pass2_ready : (m : State) → Ready m → Ready (pass2 m)
  pass2_ready m h = record { kept = pass2_kept m h.kept; rises = pass2_rises F m h.rises; points = unfold pass2 dropped counted with_faces in h.points }

  -- pass 3
  pub pass3_ready : (m : State) → Ready m → Ready (pass3 m)
  pass3_ready m h = record { kept = pass3_kept m h.kept; rises = pass3_rises F m h.rises; points = unfold pass3 dropped counted with_faces in h.points }

  -- pass 4
  pub pass4_ready : (m : State) → Ready m → Ready (pass4 m)
  pass4_ready m h = record { kept = pass4_kept m h.kept; rises = pass4_rises F m h.rises; points = unfold pass4 dropped counted with_faces in h.points }

  -- a pass by its option
  pub optional_ready : (b : Bool) (pass : State → State) → ((m : State) → Ready m → Ready (pass m)) → (m : State) → Ready m → Ready (optional b pass m)
  unfolding optional
  optional_ready true pass h m r = h m r
  optional_ready false pass h m r = r

  -- ---- the lines of passes 1 to 4

  -- the lines of a pass run on the mesh before it and leave the mesh after it
  abbrev pub Runs : ℕ → ℕ → (State → List Line) → (State → State) → Type 0
  Runs k l lines pass =
      (m : State) → Ready m → (last : List ℕ) → Early k last → Ran P F (some (bench m.points m.faces 0 [] last)) (lines m) (pass m).points (pass m).faces 0 [] l

  -- a pass that is off writes nothing
  pub runs_if :
      (k l : ℕ) → k ≤ l → (lines : State → List Line) (pass : State → State) → Runs k l lines pass
      → (b : Bool) (m : State) → Ready m → (last : List ℕ) → Early k last
      → Ran P F (some (bench m.points m.faces 0 [] last)) (cond b (lines m) []) (optional b pass m).points (optional b pass m).faces 0 [] l
  unfolding optional
  runs_if k l le lines pass h true m r last e = h m r last e
  runs_if k l le lines pass h false m r last e = ran_none (early_later k l last le e)

  -- the section of pass 1's reasons
  first_section : (x : Shape) (f : ℕ) → section (dropped_face f (reason_of x)) ≡ 1
  unfolding section reason_of
  first_section good f = refl
  first_section repeated f = refl
  first_section thin f = refl

  -- pass 1
  pub runs1 : (s : Float) → Runs 1 2 (lines1 s) (pass1 s)
  unfolding lines1 pass1 dropped counted with_faces
  runs1 s m r last e =
      drops_run P F 1 m.points 0 [] m.faces (marked1 s m.points m.faces) (λ i. reason_of (shape s m.points (face m.faces i)))
      (λ i f. first_section (shape s m.points (face m.faces i)) f) [] 0 last tt r.rises.up (early_behind 1 0 last e)

  -- pass 2
  pub runs2 : Runs 2 3 lines2 pass2
  unfolding lines2 pass2 dropped counted with_faces section
  runs2 m r last e = drops_run P F 2 m.points 0 [] m.faces (marked2 m.faces) (λ i. for_duplicate) (λ i f. refl) [] 0 last tt r.rises.up (early_behind 2 0 last e)

  -- pass 3
  pub runs3 : Runs 3 4 lines3 pass3
  unfolding lines3 pass3 dropped counted with_faces section
  runs3 m r last e = drops_run P F 3 m.points 0 [] m.faces (marked3 m.points m.faces) (λ i. for_edge) (λ i f. refl) [] 0 last tt r.rises.up (early_behind 3 0 last e)

  -- pass 4: first the exchanges, then the faces that leave
  pub runs4 : Runs 4 6 lines4 pass4
  unfolding lines4 pass4 dropped counted with_faces section
  runs4 m r last e =
      let gs = (oriented m.faces).walk.faces in
      ran_then (exchanges_run P F m.points 0 [] m.faces gs (oriented_turned m.faces) [] 0 last tt r.rises.up (early_behind 4 0 last e))
      (λ last' e'. drops_run P F 5 m.points 0 [] gs (marked4 m.points gs) (λ i. for_direction) (λ i f. refl) [] 0 last' tt (oriented_rises F m r.rises).up (early_behind 5 0 last' e'))

  -- ---- the end

  -- lines run, and the bench leaves these points and faces
  pub record Ends (s : Option Bench) (ls : List Line) (ps : List Point) (fs : List Face) : Type 0 where
    pub end : Bench
    pub goes : run P F s ls ≡ some end
    pub points : (finished end).points ≡ ps
    pub faces : (finished end).faces ≡ fs

  -- after a section
  ends-then :
      {s : Option Bench} {xs ys : List Line} {ps qs : List Point} {fs gs : List Face} {n : ℕ} {us : List ℕ} {k : ℕ}
      → Ran P F s xs ps fs n us k → ((last : List ℕ) → Early k last → Ends (some (bench ps fs n us last)) ys qs gs) → Ends s (xs ++ ys) qs gs
  ends-then {s} {xs} {ys} r f =
      let q = f r.last r.early in
      record { end = q.end; goes = run_append P F s xs ys ∙ ap (λ t. run P F t ys) r.goes ∙ q.goes; points = q.points; faces = q.faces }

  -- pass 6
  ends6 : (b : Bool) (m : State) → Inside (length m.points) m.faces → (n : ℕ) (last : List ℕ) → Early 7 last → Ends (some (bench m.points m.faces n [] last)) (cond b (lines6 m) []) (optional b pass6 m).points (optional b pass6 m).faces
  unfolding optional
  ends6 true m inside n last e =
      let r = isolated_run P F m n last e in
      let f = finished_six m n r.last inside in
      record { end = bench m.points m.faces n (filter (marked6 m.faces) (below (length m.points))) r.last; goes = r.goes; points = f.0; faces = f.1 }
  ends6 false m inside n last e =
      let f = finished_none m n last inside in
      record { end = bench m.points m.faces n [] last; goes = unfold through in refl; points = f.0; faces = f.1 }

  -- passes 5 and 6
  ends5 :
      (b c : Bool) (m : State) → Ready m → (last : List ℕ) → Early 6 last
      → Ends (some (bench m.points m.faces 0 [] last)) (cond b (lines5 m) [] ++ cond c (lines6 (optional b pass5 m)) []) (optional c pass6 (optional b pass5 m)).points (optional c pass6 (optional b pass5 m)).faces
  ends5 true c m r last e =
      let w = copies_run P F (some (bench m.points m.faces 0 [] last)) [] m r.kept.inside r.points r.kept.faces last e refl r.rises.up r.rises.low in
      step w.n w.ran
    where
      step : (n : ℕ) → Ran P F (some (bench m.points m.faces 0 [] last)) (lines5 m) (pass5 m).points (pass5 m).faces n [] 7
          → Ends (some (bench m.points m.faces 0 [] last)) (lines5 m ++ cond c (lines6 (optional true pass5 m)) []) (optional c pass6 (optional true pass5 m)).points (optional c pass6 (optional true pass5 m)).faces
      step n q = unfold optional in (ends-then q (λ last' e'. ends6 c (pass5 m) (pass5_kept m r.kept).inside n last' e'))
  ends5 false c m r last e = unfold optional in (ends6 c m r.kept.inside 0 last (early_later 6 7 last (omega arith) e))

-- the input as a pass finds it
pub start_ready : (ps : List Point) (fs : List Face) → Inside (length ps) fs → Up 0 (origins fs) → All (λ f. f.origin < length fs) fs → Ready (length ps) (length fs) (start ps fs)
unfolding start
start_ready ps fs inside up low = record { kept = record { faces = omega arith; inside = inside; report = refl }; rises = record { up = up; low = low }; points = refl }

-- the written lines run and leave the repaired mesh
pub listed :
    (s : Float) (options : ℕ) (ps : List Point) (fs : List Face) → Inside (length ps) fs → Up 0 (origins fs) → All (λ f. f.origin < length fs) fs
    → Ends (length ps) (length fs) (some (bench_of ps fs)) (list s options ps fs) (repaired s options ps fs).points (repaired s options ps fs).faces
unfolding list repaired passes start bench_of
listed s options ps fs inside up low =
    let P = length ps in
    let F = length fs in
    let m0 = start ps fs in
    let m1 = optional (bit 0 options) (pass1 s) m0 in
    let m2 = optional (bit 1 options) pass2 m1 in
    let m3 = optional (bit 2 options) pass3 m2 in
    let m4 = optional (bit 4 options) pass4 m3 in
    let r0 = start_ready ps fs inside up low in
    let r1 = optional_ready P F (bit 0 options) (pass1 s) (pass1_ready P F s) m0 r0 in
    let r2 = optional_ready P F (bit 1 options) pass2 (pass2_ready P F) m1 r1 in
    let r3 = optional_ready P F (bit 2 options) pass3 (pass3_ready P F) m2 r2 in
    let r4 = optional_ready P F (bit 4 options) pass4 (pass4_ready P F) m3 r3 in
    let four =
    ran_then (ran_then (ran_then (runs_if P F 1 2 (omega arith) (lines1 s) (pass1 s) (runs1 P F s) (bit 0 options) m0 r0 [] tt)
    (λ last e. runs_if P F 2 3 (omega arith) lines2 pass2 (runs2 P F) (bit 1 options) m1 r1 last e))
    (λ last e. runs_if P F 3 4 (omega arith) lines3 pass3 (runs3 P F) (bit 2 options) m2 r2 last e))
    (λ last e. runs_if P F 4 6 (omega arith) lines4 pass4 (runs4 P F) (bit 4 options) m3 r3 last e) in
    let all = ends-then P F four (λ last e. ends5 P F (bit 3 options) (bit 5 options) m4 r4 last e) in
    let first = cond (bit 0 options) (lines1 s m0) [] ++ cond (bit 1 options) (lines2 m1) [] ++ cond (bit 2 options) (lines3 m2) [] ++ cond (bit 4 options) (lines4 m3) [] in
    record {
      end = all.end;
      goes = ap (run P F (some (bench ps fs 0 [] []))) (append_assoc first (cond (bit 3 options) (lines5 m4) []) (cond (bit 5 options) (lines6 (optional (bit 3 options) pass5 m4)) [])) ∙ all.goes;
      points = all.points;
      faces = all.faces;
    }
