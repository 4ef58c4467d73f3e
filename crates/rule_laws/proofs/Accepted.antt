-- What an accepted repair says of its input: every corner is a point. Assumes nothing.
use mathlib.Core.Path.{◌≡◌, refl}
use mathlib.Core.Bool.{Bool, true, false, not, ◌||◌}
use mathlib.Core.List.{List}
use Prim.Native.Nat.{ℕ, ◌/◌}
use lib.ListN.{length}
use lib.Dec.{T, leb}
use lib.Ieee.{Float}
use borrow.Author.Tests.{leb-false}
use Rattle.rules.specs.Lists.{any}
use Rattle.rules.specs.Mesh.{Face, points_of, faces_of, corners}
use Rattle.rules.specs.Refusal.{ok, no5}
use Rattle.rules.specs.RepairCall.{RepairRooms, repair_check}
use Rattle.rule_laws.proofs.Rising.{all_imp}
use Rattle.rule_laws.proofs.Decided.{decided_all}
use Rattle.rule_laws.proofs.Firsts.{at_first_all}
use Rattle.rule_laws.proofs.Flat.{length_points}
use Rattle.rule_laws.proofs.Once.{Inside, CornersBelow}

-- not refused 5: every corner is below P
pub no5_inside : (P : ℕ) (fs : List Face) → no5 P fs ≡ ok → Inside P fs
unfolding no5
no5_inside P fs e =
    all_imp (λ f. T (not (any (leb P) (corners f)))) (CornersBelow P) three fs (at_first_all 5 (λ f. any (leb P) (corners f)) fs e)
  where
    three : (f : Face) → T (not (any (leb P) (corners f))) → CornersBelow P f
    three f t = go (leb P f.a) (leb P f.b) (leb P f.c) refl refl refl (unfold any in t)
      where
        go : (x y z : Bool) → leb P f.a ≡ x → leb P f.b ≡ y → leb P f.c ≡ z → T (not (x || (y || (z || false)))) → CornersBelow P f
        go false false false p q r t = (leb-false P f.a p, leb-false P f.b q, leb-false P f.c r)
        go false false true p q r t = absurd t
        go false true z p q r t = absurd t
        go true y z p q r t = absurd t

-- of an accepted repair, every corner is a point
pub accepted_inside :
    (points : List Float) (faces : List ℕ) (s : Float) (options : ℕ) (r : RepairRooms) → repair_check points faces s options r ≡ ok
    → Inside (length (points_of points)) (faces_of faces)
unfolding repair_check
accepted_inside points faces s options r e =
    let c = decided_all _ e in
    rw (length_points points) (no5_inside (length points / 3) (faces_of faces) c.1.1.1.1.1.1.1.0)
