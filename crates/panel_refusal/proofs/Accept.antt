-- What an accepted call says of its rows and of its rooms. Assumes nothing.
use mathlib.Core.Path.{◌≡◌, refl}
use mathlib.Core.Bool.{true, false}
use mathlib.Core.List.{List, [], ◌∷◌}
use Prim.Native.Nat.{ℕ, ◌+◌, ◌*◌, ◌/◌}
use native.Mathlib.Omega.{arith}
use borrow.Author.Tests.{eq-eqb, ne_eqb}
use lib.Dec.{eqb, eqb→eq, nltb→le}
use lib.Ieee.{Float}
use lib.ListN.{length}
use Rattle.rules.specs.State.{report_counts}
use Rattle.rules.specs.Lists.{below}
use Rattle.rules.specs.Refusal.{Check, ok, no, unless, decided, no2, no6}
use Rattle.rules.specs.PanelCall.{most_meshes, total, largest, no1_rows, no1_total, panel_rooms, PanelRooms, panel_check}
use Rattle.rule_laws.proofs.Decided.{decided_all, unless_ok}
use Rattle.refuse.proofs.Accept.{rooms_fine}
use Rattle.refuse.proofs.Singles.{no2_fine}
use Rattle.panel_refusal.specs.Checks.{rows_list, panel_list, stated, Rows, PanelAccepted}

-- ---- single checks

-- rows of one length, and of two
pub rows_same : (ps fs : List ℕ) → length ps ≡ length fs → ok ≡ no1_rows ps fs
unfolding no1_rows unless
rows_same ps fs e = rw (eq-eqb (length ps) (length fs) e)

pub rows_differ : (ps fs : List ℕ) → (length ps ≡ length fs → ⊥) → no 1 0 ≡ no1_rows ps fs
unfolding no1_rows unless
rows_differ ps fs e = rw (ne_eqb (length ps) (length fs) e)

-- counts that add up, and that do not
pub sum_right : (p n : ℕ) (counts : List ℕ) → true ≡ eqb (3 * total counts) n → ok ≡ no1_total p counts n
unfolding no1_total unless
sum_right p n counts e = rw (← e) refl

pub sum_wrong : (p n : ℕ) (counts : List ℕ) → false ≡ eqb (3 * total counts) n → no 1 p ≡ no1_total p counts n
unfolding no1_total unless
sum_wrong p n counts e = rw (← e) refl

-- what 1 leaves where it finds nothing
rows_fine : (ps fs : List ℕ) → no1_rows ps fs ≡ ok → length ps ≡ length fs
unfolding no1_rows
rows_fine ps fs e = eqb→eq (length ps) (length fs) (unless_ok 1 0 (eqb (length ps) (length fs)) e)

total_fine : (p n : ℕ) (counts : List ℕ) → no1_total p counts n ≡ ok → 3 * total counts ≡ n
unfolding no1_total
total_fine p n counts e = eqb→eq (3 * total counts) n (unless_ok 1 p (eqb (3 * total counts) n) e)

-- ---- all of them

-- where 1 and 2 find nothing, one by one
rows_from :
    (points faces : ℕ) (ps fs : List ℕ) → no1_rows ps fs ≡ ok → no1_total 0 ps points ≡ ok → no1_total 1 fs faces ≡ ok → no2 0 (length ps) most_meshes ≡ ok
    → Rows points faces ps fs
rows_from points faces ps fs a b c d =
    record { same = rows_fine ps fs a; points_total = total_fine 0 points ps b; faces_total = total_fine 1 faces fs c; few = no2_fine 0 (length ps) most_meshes d }

-- and together
pub rows_accepted : (points faces : ℕ) (ps fs : List ℕ) → decided (rows_list ps fs points faces) ≡ ok → Rows points faces ps fs
rows_accepted points faces ps fs e =
    let r = decided_all (rows_list ps fs points faces) e in
    rows_from points faces ps fs r.0 r.1.0 r.1.1.0 r.1.1.1.0

-- 6 by the lengths of the lists is 6 by the rows
pub six_is :
    (points faces : ℕ) (ps fs given : List ℕ) (w : ℕ) (x : Check) → Rows points faces ps fs → w ≡ largest ps fs
    → x ≡ no6 (stated (points / 3) (faces / 3) (length ps) w) given → x ≡ no6 (panel_rooms ps fs) given
unfolding panel_rooms
six_is points faces ps fs given w x r e h =
    let p : points / 3 ≡ total ps = omega (arith, r) in
    let f : faces / 3 ≡ total fs = omega (arith, r) in
    rw (p, f, e) at h

-- the list of checks is the rules', at the lengths of the rooms
pub panel_is :
    (points : List Float) (faces ps fs : List ℕ) (s : Float) (options : ℕ) (r : PanelRooms)
    → decided
    (panel_list (length points) (length faces) ps fs s options (length r.out_points) (length r.out_faces) (length r.report) (length r.origins) (length r.meshes) (length r.work))
    ≡ panel_check points faces ps fs s options r
unfolding panel_check
panel_is points faces ps fs s options r = refl

-- where it finds nothing the rows add up and the rooms are long enough
pub panel_accepted :
    (points faces : ℕ) (ps fs : List ℕ) (s : Float) (o a b c d e f : ℕ) → decided (panel_list points faces ps fs s o a b c d e f) ≡ ok
    → PanelAccepted points faces ps fs a b c d e f
unfolding below panel_rooms
panel_accepted points faces ps fs s o a b c d e f q =
    let r = decided_all (panel_list points faces ps fs s o a b c d e f) q in
    let g = rooms_fine (panel_rooms ps fs) (a ∷ b ∷ c ∷ d ∷ e ∷ f ∷ []) r.1.1.1.1.1.1.0 in
    record {
      rows = rows_from points faces ps fs r.0 r.1.0 r.1.1.0 r.1.1.1.0;
      room_out_points = nltb→le a (3 * (total ps + 3 * total fs)) g.0;
      room_out_faces = nltb→le b (3 * total fs) g.1.0;
      room_report = nltb→le c (report_counts * length ps) g.1.1.0;
      room_origins = nltb→le d (total fs) g.1.1.1.0;
      room_meshes = nltb→le e (4 * length ps) g.1.1.1.1.0;
      room_work = nltb→le f (largest ps fs) g.1.1.1.1.1.0;
    }
