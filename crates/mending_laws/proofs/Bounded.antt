-- The written lines have small numbers, and their text has at most 10P + 118F bytes. Assumes nothing.
use mathlib.Core.Path.{◌≡◌, refl}
use mathlib.Core.Bool.{Bool, true, false, cond}
use mathlib.Core.List.{List, [], ◌++◌}
use Prim.Native.Nat.{ℕ, ◌+◌, ◌*◌, ◌≤◌, ◌<◌}
use native.Mathlib.Omega.{arith}
use lib.Ieee.{Float}
use lib.ListN.{length}
use Rattle.rules.specs.Lists.{leave}
use Rattle.rules.specs.Mesh.{Point, Face, face}
use Rattle.rules.specs.Float.{shape}
use Rattle.rules.specs.State.{State, start, counted, with_faces, dropped}
use Rattle.rules.specs.Pass1.{pass1, marked1}
use Rattle.rules.specs.Pass2.{pass2, marked2}
use Rattle.rules.specs.Pass3.{pass3, marked3}
use Rattle.rules.specs.Pass4.{pass4, oriented, marked4}
use Rattle.rules.specs.Pass5.{pass5}
use Rattle.rules.specs.Pass6.{marked6}
use Rattle.rules.specs.Repair.{bit, optional}
use Rattle.rules.specs.Mending.{Reason, for_duplicate, for_edge, for_direction, reason_of, Line, dropped_face, exchange, isolated_point, drops, turned, lines1, lines2, lines3, lines4, lines5, lines6, list, list_text}
use Rattle.rule_laws.proofs.Once.{Inside}
use Rattle.rule_laws.proofs.Lists.{leave_length}
use Rattle.rule_laws.proofs.Rising.{All, all_at, all_append, Up}
use Rattle.rule_laws.proofs.Counting.{count_below_le}
use Rattle.rule_laws.proofs.Turning.{oriented_turned}
use Rattle.rule_laws.proofs.Origins.{origins}
use Rattle.repairing.proofs.Copies.{pass5_points}
use Rattle.mending_laws.proofs.Exchanging.{exchanges}
use Rattle.mending_laws.proofs.Weights.{Within, weights, weights_append, text_weight, marks_within, marks_weight}
use Rattle.mending_laws.proofs.Copying.{copies_run}
use Rattle.mending_laws.proofs.Rise.{oriented_rises}
use Rattle.mending_laws.proofs.Listed.{Ready, pass1_ready, pass2_ready, pass3_ready, pass4_ready, optional_ready, start_ready}

module _ (P F : ℕ) where
  -- numbers below F and P + 3F, and a weight of at most e and 22 for each face that leaves
  record Fit (ls : List Line) (before after : List Face) (e : ℕ) : Type 0 where
    within : All (Within F (P + 3 * F)) ls
    weighs : weights ls + 22 * length after ≤ 22 * length before + e

  -- a pass that is off
  fit_if : (b : Bool) (pass : State → State) (ls : List Line) (m : State) (e : ℕ) → Fit ls m.faces (pass m).faces e → Fit (cond b ls []) m.faces (optional b pass m).faces e
  unfolding optional
  fit_if true pass ls m e h = h
  fit_if false pass ls m e h = record { within = tt; weighs = omega arith }

  -- faces that leave
  drops_fit : (fs : List Face) → All (λ f. f.origin < F) fs → (marked : ℕ → Bool) (why : ℕ → Reason) → Fit (drops marked why fs) fs (leave marked fs) 0
  unfolding drops
  drops_fit fs h marked why =
      let line : ℕ → Line = λ i. dropped_face (face fs i).origin (why i) in
      record {
        within = marks_within marked line F (P + 3 * F) (length fs) (λ i l. unfold face in (all_at (λ f. f.origin < F) fs (record { a = 0; b = 0; c = 0; origin = 0 }) i h l));
        weighs = omega (arith, marks_weight marked line 22 (λ i. refl) (length fs), leave_length marked fs);
      }

  -- pass 1
  fit1 : (s : Float) (m : State) → Ready P F m → Fit (lines1 s m) m.faces (pass1 s m).faces 0
  unfolding lines1 pass1 dropped counted with_faces
  fit1 s m r = drops_fit m.faces r.rises.low (marked1 s m.points m.faces) (λ i. reason_of (shape s m.points (face m.faces i)))

  -- pass 2
  fit2 : (m : State) → Ready P F m → Fit (lines2 m) m.faces (pass2 m).faces 0
  unfolding lines2 pass2 dropped counted with_faces
  fit2 m r = drops_fit m.faces r.rises.low (marked2 m.faces) (λ i. for_duplicate)

  -- pass 3
  fit3 : (m : State) → Ready P F m → Fit (lines3 m) m.faces (pass3 m).faces 0
  unfolding lines3 pass3 dropped counted with_faces
  fit3 m r = drops_fit m.faces r.rises.low (marked3 m.points m.faces) (λ i. for_edge)

  -- pass 4: each face may be exchanged first
  fit4 : (m : State) → Ready P F m → Fit (lines4 m) m.faces (pass4 m).faces (10 * length m.faces)
  unfolding lines4 pass4 dropped counted with_faces
  fit4 m r =
      let gs = (oriented m.faces).walk.faces in
      let names : All (λ f. f.origin < F) gs = (oriented_rises F m r.rises).low in
      let line : ℕ → Line = λ i. exchange (face gs i).origin in
      let d = drops_fit gs names (marked4 m.points gs) (λ i. for_direction) in
      let w = marks_weight (turned m.faces gs) line 10 (λ i. refl) (length gs) in
      record {
        within = all_append (Within F (P + 3 * F)) (exchanges m.faces gs) (drops (marked4 m.points gs) (λ i. for_direction) gs)
            (marks_within (turned m.faces gs) line F (P + 3 * F) (length gs) (named gs names)) d.within;
        weighs = omega (arith, d.weighs, weights_append (exchanges m.faces gs) (drops (marked4 m.points gs) (λ i. for_direction) gs), w, count_below_le (turned m.faces gs) (length gs), (oriented_turned m.faces).0);
      }
    where
      named : (gs : List Face) → All (λ f. f.origin < F) gs → (i : ℕ) → i < length gs → (face gs i).origin < F
      named gs h i l = unfold face in (all_at (λ f. f.origin < F) gs (record { a = 0; b = 0; c = 0; origin = 0 }) i h l)

  -- numbers below F and P + 3F, and a weight of at most e
  record Few (ls : List Line) (e : ℕ) : Type 0 where
    within : All (Within F (P + 3 * F)) ls
    weighs : weights ls ≤ e

  -- a pass that is off
  few_if : (b : Bool) (ls : List Line) (e : ℕ) → Few ls e → Few (cond b ls []) e
  few_if true ls e h = h
  few_if false ls e h = record { within = tt; weighs = omega arith }

  -- pass 5
  few5 : (m : State) → Ready P F m → Few (lines5 m) (78 * length m.faces)
  few5 m r =
      let c = copies_run P F _ [] m r.kept.inside r.points r.kept.faces [] tt refl r.rises.up r.rises.low in
      record { within = c.within; weighs = c.weighs }

  -- pass 6
  few6 : (m : State) → length m.points ≤ P + 3 * F → Few (lines6 m) (10 * length m.points)
  unfolding lines6
  few6 m h =
      record {
        within = marks_within (marked6 m.faces) isolated_point F (P + 3 * F) (length m.points) (λ i l. omega arith);
        weighs = omega (arith, marks_weight (marked6 m.faces) isolated_point 10 (λ i. refl) (length m.points), count_below_le (marked6 m.faces) (length m.points));
      }

  -- the points after pass 5
  points5 : (b : Bool) (m : State) → Ready P F m → length (optional b pass5 m).points ≤ P + 3 * length m.faces
  unfolding optional
  points5 true m r = omega (arith, pass5_points m r.kept.inside, r.points)
  points5 false m r = omega (arith, r.points)

-- six groups of lines together
six :
    (W : Line → Type 0) (a b c d e f : List Line) → All W a → All W b → All W c → All W d → All W e → All W f
    → All W (a ++ b ++ c ++ d ++ e ++ f)
six W a b c d e f ha hb hc hd he hf =
    all_append W (a ++ b ++ c ++ d ++ e) f (all_append W (a ++ b ++ c ++ d) e (all_append W (a ++ b ++ c) d (all_append W (a ++ b) c (all_append W a b ha hb) hc) hd) he) hf

-- their weight
six_weights :
    (a b c d e f : List Line) → weights (a ++ b ++ c ++ d ++ e ++ f) ≡ weights a + weights b + weights c + weights d + weights e + weights f
six_weights a b c d e f =
    omega (arith, weights_append (a ++ b ++ c ++ d ++ e) f, weights_append (a ++ b ++ c ++ d) e, weights_append (a ++ b ++ c) d, weights_append (a ++ b) c, weights_append a b)

-- the written lines: their numbers, and their weight
pub record Bounded (P F : ℕ) (ls : List Line) : Type 0 where
  pub within : All (Within F (P + 3 * F)) ls
  pub weighs : weights ls ≤ 10 * P + 118 * F

-- they are bounded so, under any options
pub list_bounded :
    (s : Float) (options : ℕ) (ps : List Point) (fs : List Face) → Inside (length ps) fs → Up 0 (origins fs) → All (λ f. f.origin < length fs) fs
    → Bounded (length ps) (length fs) (list s options ps fs)
unfolding list start
list_bounded s options ps fs inside up low =
    let P = length ps in
    let F = length fs in
    let m0 = start ps fs in
    let m1 = optional (bit 0 options) (pass1 s) m0 in
    let m2 = optional (bit 1 options) pass2 m1 in
    let m3 = optional (bit 2 options) pass3 m2 in
    let m4 = optional (bit 4 options) pass4 m3 in
    let m5 = optional (bit 3 options) pass5 m4 in
    let r0 = start_ready ps fs inside up low in
    let r1 = optional_ready P F (bit 0 options) (pass1 s) (pass1_ready P F s) m0 r0 in
    let r2 = optional_ready P F (bit 1 options) pass2 (pass2_ready P F) m1 r1 in
    let r3 = optional_ready P F (bit 2 options) pass3 (pass3_ready P F) m2 r2 in
    let r4 = optional_ready P F (bit 4 options) pass4 (pass4_ready P F) m3 r3 in
    let l1 = cond (bit 0 options) (lines1 s m0) [] in
    let l2 = cond (bit 1 options) (lines2 m1) [] in
    let l3 = cond (bit 2 options) (lines3 m2) [] in
    let l4 = cond (bit 4 options) (lines4 m3) [] in
    let l5 = cond (bit 3 options) (lines5 m4) [] in
    let l6 = cond (bit 5 options) (lines6 m5) [] in
    let f1 = fit_if P F (bit 0 options) (pass1 s) (lines1 s m0) m0 0 (fit1 P F s m0 r0) in
    let f2 = fit_if P F (bit 1 options) pass2 (lines2 m1) m1 0 (fit2 P F m1 r1) in
    let f3 = fit_if P F (bit 2 options) pass3 (lines3 m2) m2 0 (fit3 P F m2 r2) in
    let f4 = fit_if P F (bit 4 options) pass4 (lines4 m3) m3 (10 * length m3.faces) (fit4 P F m3 r3) in
    let f5 = few_if P F (bit 3 options) (lines5 m4) (78 * length m4.faces) (few5 P F m4 r4) in
    let p5 = points5 P F (bit 3 options) m4 r4 in
    let k3 = r3.kept.faces in
    let k4 = r4.kept.faces in
    let f6 = few_if P F (bit 5 options) (lines6 m5) (10 * length m5.points) (few6 P F m5 (omega (arith, p5, k4))) in
    record {
      within = six (Within F (P + 3 * F)) l1 l2 l3 l4 l5 l6 f1.within f2.within f3.within f4.within f5.within f6.within;
      weighs = omega (arith, six_weights l1 l2 l3 l4 l5 l6, f1.weighs, f2.weighs, f3.weighs, f4.weighs, f5.weighs, f6.weighs, p5, k3, k4);
    }

-- the text has at most 10P + 118F bytes
pub text_bounded :
    (s : Float) (options : ℕ) (ps : List Point) (fs : List Face) → Inside (length ps) fs → Up 0 (origins fs) → All (λ f. f.origin < length fs) fs
    → length ps ≤ 4194304 → length fs ≤ 1048576 → length (list_text s options ps fs) ≤ 10 * length ps + 118 * length fs
unfolding list_text
text_bounded s options ps fs inside up low hp hf =
    let b = list_bounded s options ps fs inside up low in
    omega (arith, b.weighs, text_weight (length fs) (length ps + 3 * length fs) (omega arith) (omega arith) (list s options ps fs) b.within)
