-- What a repair answers fits in the rooms stated for it, whatever its options are: at most P + 3F points and F faces. Assumes nothing.
use mathlib.Core.Path.{◌≡◌, refl}
use mathlib.Core.Bool.{Bool, true, false}
use mathlib.Core.List.{List}
use Prim.Native.Nat.{ℕ, ◌+◌, ◌*◌, ◌/◌, ◌≤◌}
use native.Mathlib.Omega.{arith}
use lib.Ieee.{Float}
use lib.ListN.{length}
use Rattle.rules.specs.Mesh.{Point, Face, points_of, faces_of}
use Rattle.rules.specs.State.{State, start, counted, with_faces, dropped}
use Rattle.rules.specs.Pass1.{pass1}
use Rattle.rules.specs.Pass2.{pass2}
use Rattle.rules.specs.Pass3.{pass3}
use Rattle.rules.specs.Pass4.{pass4}
use Rattle.rules.specs.Pass5.{pass5}
use Rattle.rules.specs.Pass6.{marked6, pass6}
use Rattle.rules.specs.Refusal.{ok}
use Rattle.rules.specs.Repair.{bit, optional, passes, repaired}
use Rattle.rules.specs.Calls.{RepairRooms, repair_check}
use Rattle.rule_laws.proofs.Lists.{leave_length}
use Rattle.rule_laws.proofs.Flat.{length_points, length_faces}
use Rattle.rule_laws.proofs.Accepted.{accepted_inside}
use Rattle.rule_laws.proofs.Once.{Inside}
use Rattle.repairing.proofs.Keeping.{Kept, pass1_kept, pass2_kept, pass3_kept, pass4_kept, pass5_kept, pass6_kept}
use Rattle.repairing.proofs.Copies.{pass5_points}

-- what a repair has in hand with at most N points
pub record Fits (N F : ℕ) (m : State) : Type 0 where
  pub points : length m.points ≤ N
  pub kept : Kept F m

-- a pass whose option is not set changes nothing
optional_fits : {N M F : ℕ} (b : Bool) (pass : State → State) (m : State) → N ≤ M → ((n : State) → Fits N F n → Fits M F (pass n)) → Fits N F m → Fits M F (optional b pass m)
unfolding optional
optional_fits true pass m l h k = h m k
optional_fits false pass m l h k = record { points = omega (arith, k.points); kept = k.kept }

module _ {N F : ℕ} where
  -- the first four passes keep the points
  pub pass1_fits : (s : Float) (m : State) → Fits N F m → Fits N F (pass1 s m)
  pass1_fits s m k = record { points = unfold pass1 dropped counted with_faces in k.points; kept = pass1_kept s m k.kept }

  pub pass2_fits : (m : State) → Fits N F m → Fits N F (pass2 m)
  pass2_fits m k = record { points = unfold pass2 dropped counted with_faces in k.points; kept = pass2_kept m k.kept }

  pub pass3_fits : (m : State) → Fits N F m → Fits N F (pass3 m)
  pass3_fits m k = record { points = unfold pass3 dropped counted with_faces in k.points; kept = pass3_kept m k.kept }

  pub pass4_fits : (m : State) → Fits N F m → Fits N F (pass4 m)
  pass4_fits m k = record { points = unfold pass4 dropped counted with_faces in k.points; kept = pass4_kept m k.kept }

  -- pass 5 adds at most three a face
  pub pass5_fits : (m : State) → Fits N F m → Fits (N + 3 * F) F (pass5 m)
  pass5_fits m k = record { points = omega (arith, pass5_points m k.kept.inside, k.points, k.kept.faces); kept = pass5_kept m k.kept }

  -- pass 6 adds none
  pub pass6_fits : (m : State) → Fits N F m → Fits N F (pass6 m)
  pass6_fits m k = record { points = unfold pass6 in (omega (arith, leave_length (marked6 m.faces) m.points, k.points)); kept = pass6_kept m k.kept }

-- all six
pub passes_fit : {N F : ℕ} (s : Float) (options : ℕ) (m : State) → Fits N F m → Fits (N + 3 * F) F (passes s options m)
unfolding passes
passes_fit {N} {F} s options m k =
    optional_fits {N = N + 3 * F} {M = N + 3 * F} (bit 5 options) pass6 _ (omega arith) pass6_fits
    (optional_fits {N = N} {M = N + 3 * F} (bit 3 options) pass5 _ (omega arith) pass5_fits
    (optional_fits {N = N} {M = N} (bit 4 options) pass4 _ (omega arith) pass4_fits
    (optional_fits {N = N} {M = N} (bit 2 options) pass3 _ (omega arith) pass3_fits
    (optional_fits {N = N} {M = N} (bit 1 options) pass2 _ (omega arith) pass2_fits
    (optional_fits {N = N} {M = N} (bit 0 options) (pass1 s) _ (omega arith) (pass1_fits s) k)))))

-- a repair leaves at most P + 3F points and F faces, corners that are points, and as many counts as a report has
pub repaired_fits : (s : Float) (options : ℕ) (ps : List Point) (fs : List Face) → Inside (length ps) fs → Fits (length ps + 3 * length fs) (length fs) (repaired s options ps fs)
unfolding repaired start
repaired_fits s options ps fs h = passes_fit s options (start ps fs) (record { points = omega arith; kept = record { faces = omega arith; inside = h; report = refl } })

-- in the words of the call: whenever its check finds nothing
pub repair_fits :
    (points : List Float) (faces : List ℕ) (s : Float) (options : ℕ) (r : RepairRooms) → repair_check points faces s options r ≡ ok
    → Fits (length points / 3 + 3 * (length faces / 3)) (length faces / 3) (repaired s options (points_of points) (faces_of faces))
repair_fits points faces s options r e =
    rw (← length_points points, ← length_faces faces) (repaired_fits s options (points_of points) (faces_of faces) (accepted_inside points faces s options r e))
