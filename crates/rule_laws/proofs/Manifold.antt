-- Demand 3, its first sentence: with passes 4, 5 and 6, whether or not the others run, the output walks each directed edge at most once, the faces at each point form one fan
-- joined across edges, and each point is used. Assumes nothing.
use mathlib.Core.Path.{◌≡◌, refl, sym, subst}
use mathlib.Core.Logic.{inl, inr}
use mathlib.Core.Bool.{Bool, true, false, cond}
use mathlib.Core.List.{List}
use Prim.Native.Nat.{ℕ, ◌+◌, ◌<◌}
use lib.ListN.{length}
use lib.Dec.{T}
use lib.Ieee.{Float}
use Rattle.rules.specs.Mesh.{Point, Face, face, exchanged}
use Rattle.rules.specs.State.{State, Count, repeateds, duplicates, crowded_edges, dropped_at_edges, start, counted, with_faces, dropped}
use Rattle.rules.specs.Pass1.{pass1, marked1}
use Rattle.rules.specs.Pass2.{pass2, marked2}
use Rattle.rules.specs.Pass3.{pass3, marked3, crowded}
use Rattle.rules.specs.Pass4.{oriented, pass4, marked4}
use Rattle.rules.specs.Pass5.{pass5}
use Rattle.rules.specs.Pass6.{pass6, used}
use Rattle.rules.specs.Repair.{bit, optional, passes, repaired}
use Rattle.rule_laws.proofs.Rising.{all_from, all_leave}
use Rattle.rule_laws.proofs.Turning.{Turned, OrExchanged, oriented_turned}
use Rattle.rule_laws.proofs.Once.{Inside, Once, once_after, CornersBelow, face_inside}
use Rattle.rule_laws.proofs.Numbering.{all_used}
use Rattle.rule_laws.proofs.Demand.{OneFan}
use Rattle.rule_laws.proofs.Pass5.{pass5_fans, pass5_once, pass5_inside}
use Rattle.rule_laws.proofs.Pass6.{pass6_once, pass6_fans}

-- ---- corners stay points

-- the corners of a state's faces are its points
abbrev pub Fine : State → Type 0
Fine m = Inside (length m.points) m.faces

-- faces that are exchanged have the same corners
pub turned_inside : (P : ℕ) (fs gs : List Face) → Turned fs gs → Inside P fs → Inside P gs
unfolding face
turned_inside P fs gs t h =
    all_from (CornersBelow P) (record { a = 0; b = 0; c = 0; origin = 0 }) gs (λ i l. go (face fs i) (face gs i) (t.1 i) (face_inside P fs h i (rw t.0 at l)))
  where
    go : (f g : Face) → OrExchanged f g → CornersBelow P f → CornersBelow P g
    go f g (inl e) k = subst (CornersBelow P) (sym e) k
    go f g (inr e) k = subst (CornersBelow P) (sym e) (unfold exchanged in (k.0, k.2, k.1))

-- pass 4 keeps corners points
pub pass4_fine : (m : State) → Fine m → Fine (pass4 m)
unfolding pass4 dropped counted with_faces
pass4_fine m h =
    all_leave (CornersBelow (length m.points)) (marked4 m.points (oriented m.faces).walk.faces)
    (oriented m.faces).walk.faces (turned_inside (length m.points) m.faces (oriented m.faces).walk.faces (oriented_turned m.faces) h)

-- after pass 4 each directed edge is walked at most once
pass4_once : (m : State) → Fine m → Once (pass4 m).faces
unfolding pass4 dropped counted with_faces
pass4_once m h =
    once_after m.points (oriented m.faces).walk.faces
    (turned_inside (length m.points) m.faces (oriented m.faces).walk.faces (oriented_turned m.faces) h)

-- ---- the six passes

-- the options with passes 4, 5 and 6, and of passes 1, 2 and 3 those that are wanted; with all of them these are all six
abbrev pub opted : Bool → Bool → Bool → ℕ
opted one two three = 56 + cond one 1 0 + cond two 2 0 + cond three 4 0

-- what a pass keeps is kept whether or not it runs
pass_or_none : (Q : State → Type 0) (b : Bool) (pass : State → State) (m : State) → (Q m → Q (pass m)) → Q m → Q (optional b pass m)
unfolding optional
pass_or_none Q true pass m keep h = keep h
pass_or_none Q false pass m keep h = h

-- the state after passes 2 and 3
unfoldable pub after23 : Bool → Bool → State → State
after23 two three m = optional three pass3 (optional two pass2 m)

-- it has what these keep
pub after23_has :
    (Q : State → Type 0) → ((m : State) → Q m → Q (pass2 m)) → ((m : State) → Q m → Q (pass3 m)) → (two three : Bool) (m : State) → Q m
    → Q (after23 two three m)
unfolding after23
after23_has Q keep2 keep3 two three m h =
    pass_or_none Q three pass3 (optional two pass2 m) (keep3 (optional two pass2 m)) (pass_or_none Q two pass2 m (keep2 m) h)

-- the state before pass 4
unfoldable pub before4 : Bool → Bool → Bool → Float → List Point → List Face → State
before4 one two three s ps fs = after23 two three (optional one (pass1 s) (start ps fs))

-- it has what the start has and passes 1, 2 and 3 keep
pub before4_has :
    (Q : State → Type 0) → ((s : Float) (m : State) → Q m → Q (pass1 s m)) → ((m : State) → Q m → Q (pass2 m)) → ((m : State) → Q m → Q (pass3 m))
    → (one two three : Bool) (s : Float) (ps : List Point) (fs : List Face) → Q (start ps fs) → Q (before4 one two three s ps fs)
unfolding before4
before4_has Q keep1 keep2 keep3 one two three s ps fs h =
    after23_has Q keep2 keep3 two three (optional one (pass1 s) (start ps fs)) (pass_or_none Q one (pass1 s) (start ps fs) (keep1 s (start ps fs)) h)

-- faces that leave keep the others' corners points
pub dropped_fine : (c : Count) (marked : ℕ → Bool) (m : State) → Fine m → Fine (dropped c marked m)
unfolding dropped counted with_faces
dropped_fine c marked m h = all_leave (CornersBelow (length m.points)) marked m.faces h

-- before pass 4 corners are points
pub before4_fine :
    (one two three : Bool) (s : Float) (ps : List Point) (fs : List Face) → Inside (length ps) fs → Fine (before4 one two three s ps fs)
unfolding pass1 pass2 pass3 start counted with_faces dropped
before4_fine =
    before4_has Fine (λ s m k. dropped_fine repeateds (marked1 s m.points m.faces) m k)
    (λ m k. dropped_fine duplicates (marked2 m.faces) m k)
    (λ m k. dropped_fine dropped_at_edges (marked3 m.points m.faces) (counted crowded_edges (length (crowded (length m.points) m.faces)) m) k)

-- the bits of these options
pub all_six :
    (one two three : Bool) (s : Float) (ps : List Point) (fs : List Face)
    → repaired s (opted one two three) ps fs ≡ pass6 (pass5 (pass4 (before4 one two three s ps fs)))
unfolding repaired passes optional bit before4 after23
all_six true true true s ps fs = refl
all_six true true false s ps fs = refl
all_six true false true s ps fs = refl
all_six true false false s ps fs = refl
all_six false true true s ps fs = refl
all_six false true false s ps fs = refl
all_six false false true s ps fs = refl
all_six false false false s ps fs = refl

-- the first sentence of demand 3
pub record Manifold (m : State) : Type 0 where
  pub once : Once m.faces
  pub one_fan : (v : ℕ) → v < length m.points → OneFan m.faces v
  pub every_used : (v : ℕ) → v < length m.points → T (used m.faces v)

-- it holds of every mesh whose corners are points
pub manifold :
    (one two three : Bool) (s : Float) (ps : List Point) (fs : List Face) → Inside (length ps) fs → Manifold (repaired s (opted one two three) ps fs)
manifold one two three s ps fs h =
    let m3 = before4 one two three s ps fs in
    let f3 : Fine m3 = before4_fine one two three s ps fs h in
    let m4 = pass4 m3 in
    let f4 : Fine m4 = pass4_fine m3 f3 in
    let m5 = pass5 m4 in
    rw (all_six one two three s ps fs)
    (record {
      once = pass6_once m5 (pass5_inside m4 f4) (pass5_once m4 f4 (pass4_once m3 f3));
      one_fan = λ v l. pass6_fans m5 (pass5_fans m4 f4) v l;
      every_used = λ v l. all_used m5 v l;
    })
