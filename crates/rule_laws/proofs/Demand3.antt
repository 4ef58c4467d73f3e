-- The proof of demand 3 (`Demand`): the first sentence is `Manifold`, the second `Traces`, the third `Counts`, the fourth `Accepts` and `Loops`.
-- Assumes nothing.
use mathlib.Core.Path.{◌≡◌, subst}
use mathlib.Core.Bool.{Bool, true, not, not-not}
use mathlib.Core.List.{List, Memᴰ}
use Prim.Native.Nat.{ℕ, ◌/◌, ◌≤◌}
use native.Mathlib.Omega.{arith}
use lib.ListN.{length}
use lib.Dec.{T, leb, leb→le}
use lib.Ieee.{Float}
use lib.Ieee.Bits.{is_true}
use Rattle.rules.specs.Lists.{all}
use Rattle.rules.specs.Mesh.{Point, Face, points_of, faces_of, flat_faces, coordinates, point, zero64}
use Rattle.rules.specs.State.{State}
use Rattle.rules.specs.Refusal.{ok, no2, no4, in_domain, most_faces}
use Rattle.rules.specs.Edges.{boundary, no8, loops}
use Rattle.rules.specs.Repair.{repaired}
use Rattle.rules.specs.RepairCall.{RepairRooms, repair_check}
pub use Rattle.rule_laws.proofs.Demand.{Demand3, Looped, Claim, ClaimBeside}
use Rattle.rule_laws.proofs.Demand.{Distinct, loop_steps}
use Rattle.rule_laws.proofs.Rising.{All, all_at, all_imp, all_from}
use Rattle.rule_laws.proofs.Members.{all_in}
use Rattle.rule_laws.proofs.Flat.{length_faces, numbered}
use Rattle.rule_laws.proofs.Relabel.{flat_alike, inside_alike, once_alike, fan_alike}
use Rattle.rule_laws.proofs.Tracing.{Numbered}
use Rattle.rule_laws.proofs.Once.{Inside, CornersBelow}
use Rattle.rule_laws.proofs.InOut.{once_steps}
use Rattle.rule_laws.proofs.Manifold.{Manifold, manifold, opted}
use Rattle.rule_laws.proofs.Traces.{traced}
use Rattle.rule_laws.proofs.Counts.{Sums, sums}
use Rattle.rule_laws.proofs.Distinct.{distinct}
use Rattle.rule_laws.proofs.Decided.{decided_all, unless_ok}
use Rattle.rule_laws.proofs.Firsts.{at_first_all}
use Rattle.rule_laws.proofs.Accepted.{accepted_inside}
use Rattle.rule_laws.proofs.Growing.{Closes}
use Rattle.rule_laws.proofs.Loops.{in_one_loop, one_loop_has, loops_close}
use Rattle.rule_laws.proofs.Output.{output_inside, points_from}
use Rattle.rule_laws.proofs.Accepts.{Fit, no8_ok, edges_accept, loops_accept}

-- the boundary's loops are such where refusal 8 is not given
pub looped : (P : ℕ) (fs : List Face) → Inside P fs → no8 P fs ≡ ok → Looped P fs
looped P fs inside simple =
    record {
      one_has_each = one_loop_has P fs inside simple;
      each_in_one = in_one_loop P fs inside simple;
      each_closes = λ l m.
          let c = all_in (Closes (boundary fs)) l (loops P fs) (loops_close P fs inside simple) m in
          (c.0, λ s k. all_in (λ t. Memᴰ t (boundary fs)) s (loop_steps l) c.1 k);
    }

-- ---- what an accepted repair says of its input, beside that its corners are points

module _ (points : List Float) (faces : List ℕ) (s : Float) (options : ℕ) (r : RepairRooms) (e : repair_check points faces s options r ≡ ok) where
  -- not refused 2: there are not too many faces
  pub accepted_few : length (faces_of faces) ≤ most_faces
  unfolding repair_check no2
  accepted_few =
      let c = decided_all _ e in
      rw (length_faces faces) (leb→le (length faces / 3) most_faces (unless_ok 2 1 (leb (length faces / 3) most_faces) c.1.1.1.0))

  -- not refused 4: the coordinates are in the domain
  accepted_fit : All Fit (points_of points)
  unfolding repair_check no4
  accepted_fit =
      let c = decided_all _ e in
      all_imp (λ p. T (not (not (all in_domain (coordinates p))))) Fit (λ p t. is_true (all in_domain (coordinates p)) (subst T (not-not (all in_domain (coordinates p))) t)) (points_of points)
      (at_first_all 4 (λ p. not (all in_domain (coordinates p))) (points_of points) c.1.1.1.1.1.1.0)

-- every point of the output lies in the domain
output_fit :
    (one two three : Bool) (s : Float) (ps : List Point) (fs : List Face) → Inside (length ps) fs → Numbered fs → All Fit ps
    → All Fit (repaired s (opted one two three) ps fs).points
unfolding point
output_fit one two three s ps fs h num fit =
    let m = repaired s (opted one two three) ps fs in
    all_from Fit (record { x = zero64; y = zero64; z = zero64 }) m.points
    (points_from Fit ps m.points fs m.faces (traced ps fs one two three s h num) h (λ v l. all_at Fit ps (record { x = zero64; y = zero64; z = zero64 }) v fit l) (manifold one two three s ps fs h).every_used)

-- the demand holds with passes 4, 5 and 6, whether or not passes 1, 2 and 3 run
pub demand_opted : (one two three : Bool) → Claim (opted one two three)
demand_opted one two three points faces s r e =
    record {
      each_once = once_steps m.faces good.once;
      one_fan = good.one_fan;
      every_used = good.every_used;
      is_traced = traced ps fs one two three s h (numbered faces);
      faces_add_up = total.faces_sum;
      points_add_up = total.points_sum;
      edges_accepted = edges_accept m.points m.faces fewer_faces fit inside good.once good.every_used good.one_fan;
      loops_accepted = loops_accept m.points m.faces fewer_faces fit inside good.once good.every_used good.one_fan;
      is_looped = looped (length m.points) m.faces inside (no8_ok (length m.points) m.faces good.once good.one_fan);
    }
  where
    ps : List Point
    ps = points_of points

    fs : List Face
    fs = faces_of faces

    m : State
    m = repaired s (opted one two three) ps fs

    h : Inside (length ps) fs
    h = accepted_inside points faces s (opted one two three) r e

    good : Manifold m
    good = manifold one two three s ps fs h

    total : Sums (length fs) (length ps) m
    total = sums one two three s ps fs

    inside : Inside (length m.points) m.faces
    inside = output_inside one two three s ps fs h

    fit : All Fit m.points
    fit = output_fit one two three s ps fs h (numbered faces) (accepted_fit points faces s (opted one two three) r e)

    fewer_faces : length m.faces ≤ most_faces
    fewer_faces = omega (arith, accepted_few points faces s (opted one two three) r e, total.faces_sum)

-- the loops of the flat faces too: a loop call reads them, and origins do not matter to it
pub flat_looped :
    (one two three : Bool) (points : List Float) (faces : List ℕ) (s : Float) (r : RepairRooms) → repair_check points faces s (opted one two three) r ≡ ok
    → Looped (length (repaired s (opted one two three) (points_of points) (faces_of faces)).points) (faces_of (flat_faces (repaired s (opted one two three) (points_of points) (faces_of faces)).faces))
flat_looped one two three points faces s r e =
    let h = accepted_inside points faces s (opted one two three) r e in
    let m = repaired s (opted one two three) (points_of points) (faces_of faces) in
    let good = manifold one two three s (points_of points) (faces_of faces) h in
    let fs = m.faces in
    let gs = faces_of (flat_faces fs) in
    let k = flat_alike fs in
    looped (length m.points) gs (inside_alike gs fs k (length m.points) (output_inside one two three s (points_of points) (faces_of faces) h))
    (no8_ok (length m.points) gs (once_alike gs fs k good.once) (λ v l. fan_alike gs fs k v (good.one_fan v l)))

-- demand 3
pub demand3 : Claim 63
demand3 = demand_opted true true true

-- what else holds, with passes 1, 4, 5 and 6
pub beside_opted : (two three : Bool) → ClaimBeside (opted true two three)
beside_opted two three points faces s r e =
    let h = accepted_inside points faces s (opted true two three) r e in
    let m = repaired s (opted true two three) (points_of points) (faces_of faces) in
    record {
      corners_inside = λ f k. all_in (CornersBelow (length m.points)) f m.faces (output_inside true two three s (points_of points) (faces_of faces) h) k;
      is_distinct = λ f k. all_in Distinct f m.faces (distinct two three s (points_of points) (faces_of faces) h) k;
    }

-- with all six options
pub beside3 : ClaimBeside 63
beside3 = beside_opted true true
