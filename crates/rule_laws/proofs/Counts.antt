-- Demand 3, its third sentence: input faces equal output faces plus the four removals; input points plus added equal output points plus isolated.
-- Assumes nothing.
use mathlib.Core.Path.{◌≡◌, refl, ◌∙◌}
use mathlib.Core.Logic.{◌≢◌}
use mathlib.Core.Bool.{Bool, cond}
use mathlib.Core.List.{List, [], ◌∷◌}
use Prim.Native.Nat.{ℕ, ◌+◌, ◌<◌}
use native.Mathlib.Omega.{arith}
use native.Mathlib.Nat.{add-zero}
use lib.ListN.{length, drop, length-set, length-map, length-append}
use lib.Seq.{get_or-set_same, get_or-set_other}
use lib.Dec.{ltb, eqb, lit<}
use native.Mathlib.Decide.{ℕ_discrete}
use borrow.Author.Tests.{eq-eqb, ne_eqb}
use lib.Ieee.{Float}
use Rattle.rules.specs.Lists.{below, count, has}
use Rattle.rules.specs.Mesh.{Point, Face, point, face, renamed}
use Rattle.rules.specs.State.{State, Count, report_counts, place, more, start, counted, with_faces, dropped, repeateds, thins, duplicates, crowded_edges, dropped_at_edges, dropped_for_direction, vertices_split, points_added, reoriented, components, isolated}
use Rattle.rules.specs.Pass1.{pass1, repeated1, thin1}
use Rattle.rules.specs.Pass2.{pass2, marked2}
use Rattle.rules.specs.Pass3.{pass3, marked3, crowded}
use Rattle.rules.specs.Pass4.{oriented, pass4, marked4}
use Rattle.rules.specs.Pass5.{fans, split_off, split, pass5}
use Rattle.rules.specs.Pass6.{marked6, number, pass6}
use Rattle.rules.specs.Repair.{repaired}
pub use Rattle.rule_laws.proofs.Demand.{at, degenerate}
use Rattle.rule_laws.proofs.Lists.{leave_length, through_keeps}
use Rattle.rule_laws.proofs.Why.{parted_by_1}
use Rattle.rule_laws.proofs.Turning.{oriented_turned}
use Rattle.rule_laws.proofs.Splitting.{length_map_below}
use Rattle.rule_laws.proofs.Manifold.{opted, before4, before4_has, all_six}

-- what is added to a count is there
pub more_same : (c : Count) (n : ℕ) (r : List ℕ) → place c < length r → at (more c n r) c ≡ at r c + n
unfolding more
more_same c n r h = get_or-set_same r (place c) (at r c + n) 0 h

-- the other counts stay
pub more_other : (c d : Count) (n : ℕ) (r : List ℕ) → place d ≢ place c → at (more c n r) d ≡ at r d
unfolding more
more_other c d n r ne = get_or-set_other r (place c) (place d) (at r c + n) 0 ne

-- there are as many counts
more_length : (c : Count) (n : ℕ) (r : List ℕ) → length (more c n r) ≡ length r
unfolding more
more_length c n r = length-set r (place c) (at r c + n)

-- ---- what a pass does to the sums. `Sums` says both sums of a state, reckoned from the input

-- the report has its counts; F is what is left of the faces and the four removals; P and the added points are the points and the isolated ones
pub record Sums (F P : ℕ) (m : State) : Type 0 where
  pub whole : length m.report ≡ report_counts
  pub faces_sum : F ≡ length m.faces + (degenerate m.report + at m.report duplicates + at m.report dropped_at_edges + at m.report dropped_for_direction)
  pub points_sum : P + at m.report points_added ≡ length m.points + at m.report isolated

-- at the start nothing has been added or removed
start_sums : (ps : List Point) (fs : List Face) → Sums (length fs) (length ps) (start ps fs)
unfolding start place
start_sums ps fs = record { whole = refl; faces_sum = omega arith; points_sum = omega arith }

-- a count at c changes the count at d only where they are the same
more_at : (c d : Count) (n : ℕ) (r : List ℕ) → place c < length r → at (more c n r) d ≡ at r d + cond (eqb (place d) (place c)) n 0
more_at c d n r h = go (ℕ_discrete (place d) (place c))
  where
    go : Dec (place d ≡ place c) → at (more c n r) d ≡ at r d + cond (eqb (place d) (place c)) n 0
    go (yes e) = rw (eq-eqb (place d) (place c) e, e) (more_same c n r h)
    go (no ne) = rw (ne_eqb (place d) (place c) ne, add-zero (at r d)) (more_other c d n r ne)

-- each count has one of the places
pub place_below : (c : Count) → place c < report_counts
unfolding place
place_below repeateds = lit< tt
place_below thins = lit< tt
place_below duplicates = lit< tt
place_below crowded_edges = lit< tt
place_below dropped_at_edges = lit< tt
place_below dropped_for_direction = lit< tt
place_below vertices_split = lit< tt
place_below points_added = lit< tt
place_below reoriented = lit< tt
place_below components = lit< tt
place_below isolated = lit< tt

-- the seven counts that the sums look at, after n more at c
record Seven (c : Count) (n : ℕ) (r : List ℕ) : Type 0 where
  pub whole : length (more c n r) ≡ report_counts
  pub one : at (more c n r) repeateds ≡ at r repeateds + cond (eqb (place repeateds) (place c)) n 0
  pub one_too : at (more c n r) thins ≡ at r thins + cond (eqb (place thins) (place c)) n 0
  pub two : at (more c n r) duplicates ≡ at r duplicates + cond (eqb (place duplicates) (place c)) n 0
  pub three : at (more c n r) dropped_at_edges ≡ at r dropped_at_edges + cond (eqb (place dropped_at_edges) (place c)) n 0
  pub four : at (more c n r) dropped_for_direction ≡ at r dropped_for_direction + cond (eqb (place dropped_for_direction) (place c)) n 0
  pub added : at (more c n r) points_added ≡ at r points_added + cond (eqb (place points_added) (place c)) n 0
  pub gone : at (more c n r) isolated ≡ at r isolated + cond (eqb (place isolated) (place c)) n 0

-- every addition leaves them so
seven : (c : Count) (n : ℕ) (r : List ℕ) → length r ≡ report_counts → Seven c n r
seven c n r e =
    let h : place c < length r = rw e (place_below c) in
    record {
      whole = more_length c n r ∙ e;
      one = more_at c repeateds n r h;
      one_too = more_at c thins n r h;
      two = more_at c duplicates n r h;
      three = more_at c dropped_at_edges n r h;
      four = more_at c dropped_for_direction n r h;
      added = more_at c points_added n r h;
      gone = more_at c isolated n r h;
    }

-- ---- the passes

-- the faces that pass 1 removes are counted as repeated or as thin
pass1_sums : (F P : ℕ) (s : Float) (m : State) → Sums F P m → Sums F P (pass1 s m)
unfolding pass1 counted with_faces place
pass1_sums F P s m h =
    let all = below (length m.faces) in
    let k = count (repeated1 s m.points m.faces) all in
    let x = seven repeateds k m.report h.whole in
    let y = seven thins (count (thin1 s m.points m.faces) all) (more repeateds k m.report) x.whole in
    let l = parted_by_1 s m.points m.faces in
    record { whole = y.whole; faces_sum = omega (arith, h.faces_sum); points_sum = omega (arith, h.points_sum) }

-- those that pass 2 removes are counted as duplicate
pass2_sums : (F P : ℕ) (m : State) → Sums F P m → Sums F P (pass2 m)
unfolding pass2 dropped counted with_faces place
pass2_sums F P m h =
    let marked = marked2 m.faces in
    let x = seven duplicates (count marked (below (length m.faces))) m.report h.whole in
    let l = leave_length marked m.faces in
    record { whole = x.whole; faces_sum = omega (arith, h.faces_sum); points_sum = omega (arith, h.points_sum) }

-- those that pass 3 removes are counted as dropped there; the edges it counts are in no sum
pass3_sums : (F P : ℕ) (m : State) → Sums F P m → Sums F P (pass3 m)
unfolding pass3 dropped counted with_faces place
pass3_sums F P m h =
    let marked = marked3 m.points m.faces in
    let k = length (crowded (length m.points) m.faces) in
    let x = seven crowded_edges k m.report h.whole in
    let y = seven dropped_at_edges (count marked (below (length m.faces))) (more crowded_edges k m.report) x.whole in
    let l = leave_length marked m.faces in
    record { whole = y.whole; faces_sum = omega (arith, h.faces_sum); points_sum = omega (arith, h.points_sum) }

-- those that pass 4 removes are counted as dropped there; exchanges and components are in no sum
pass4_sums : (F P : ℕ) (m : State) → Sums F P m → Sums F P (pass4 m)
unfolding pass4 dropped counted with_faces place
pass4_sums F P m h =
    let o = oriented m.faces in
    let gs = o.walk.faces in
    let marked = marked4 m.points gs in
    let x = seven reoriented o.walk.exchanges m.report h.whole in
    let y = seven components o.marks (more reoriented o.walk.exchanges m.report) x.whole in
    let z = seven dropped_for_direction (count marked (below (length gs))) (more components o.marks (more reoriented o.walk.exchanges m.report)) y.whole in
    let l = leave_length marked gs in
    let e = (oriented_turned m.faces).0 in
    record { whole = z.whole; faces_sum = omega (arith, h.faces_sum); points_sum = omega (arith, h.points_sum) }

-- the points that pass 6 removes are counted as isolated
pass6_sums : (F P : ℕ) (m : State) → Sums F P m → Sums F P (pass6 m)
unfolding pass6 place
pass6_sums F P m h =
    let x = seven isolated (count (marked6 m.faces) (below (length m.points))) m.report h.whole in
    let l = leave_length (marked6 m.faces) m.points in
    let k = length-map m.faces (renamed (number m.faces)) in
    record { whole = x.whole; faces_sum = omega (arith, h.faces_sum); points_sum = omega (arith, h.points_sum) }

-- a group split off adds one point and counts it
off_sums : (F P v : ℕ) (m : State) (g : List ℕ) → Sums F P m → Sums F P (split_off v m g)
unfolding split_off place
off_sums F P v m g h =
    let x = seven points_added 1 m.report h.whole in
    let k = length_map_below (λ i. cond (has i g) (renamed (λ y. cond (eqb y v) (length m.points) y) (face m.faces i)) (face m.faces i)) (length m.faces) in
    let l = length-append m.points (point m.points v ∷ []) in
    record { whole = x.whole; faces_sum = omega (arith, h.faces_sum); points_sum = omega (arith, h.points_sum) }

-- so does each group but the first, at one vertex
split_sums : (F P : ℕ) (m : State) (v : ℕ) → Sums F P m → Sums F P (split m v)
unfolding split counted place
split_sums F P m v h =
    let n : ℕ = cond (ltb 1 (length (fans m.faces v))) 1 0 in
    let x = seven vertices_split n m.report h.whole in
    through_keeps (Sums F P) (split_off v) (λ s g. off_sums F P v s g) (drop 1 (fans m.faces v)) (counted vertices_split n m)
    (record { whole = x.whole; faces_sum = omega (arith, h.faces_sum); points_sum = omega (arith, h.points_sum) })

-- and at all vertices
pass5_sums : (F P : ℕ) (m : State) → Sums F P m → Sums F P (pass5 m)
unfolding pass5
pass5_sums F P m h = through_keeps (Sums F P) split (λ s v. split_sums F P s v) (below (length m.points)) m h

-- the third sentence of demand 3, whichever of passes 1, 2 and 3 run
pub sums : (one two three : Bool) (s : Float) (ps : List Point) (fs : List Face) → Sums (length fs) (length ps) (repaired s (opted one two three) ps fs)
sums one two three s ps fs =
    let F = length fs in
    let P = length ps in
    let m3 = before4 one two three s ps fs in
    rw (all_six one two three s ps fs)
    (pass6_sums F P (pass5 (pass4 m3)) (pass5_sums F P (pass4 m3) (pass4_sums F P m3
    (before4_has (Sums F P) (pass1_sums F P) (pass2_sums F P) (pass3_sums F P) one two three s ps fs (start_sums ps fs)))))
