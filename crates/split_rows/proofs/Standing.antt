-- A state whose faces stand at the front of a room has the corners that stand there. Assumes nothing.
use mathlib.Core.Path.{sym, subst}
use mathlib.Core.List.{List}
use Prim.Native.Nat.{ℕ, ◌+◌, ◌*◌, ◌<◌}
use native.Mathlib.Omega.{arith}
use lib.ListN.{length, get_or, take}
use lib.Seq.{get_or-take, length-take-le}
use Rattle.rules.specs.Mesh.{face, faces_of}
use Rattle.rules.specs.State.{State}
use Rattle.rule_laws.proofs.Rising.{all_from}
use Rattle.rule_laws.proofs.Flat.{face_at, length_faces_take}
use Rattle.rule_laws.proofs.Once.{Inside, CornersBelow}
use Rattle.rule_laws.proofs.Relabel.{Alike, flat_alike, inside_alike}
use Rattle.leaving.specs.Pass.{standing, FacesStand}
use Rattle.split_rows.specs.Rows.{Stands}

-- the corners that stand are points
pub corners_in : {taken P : ℕ} {xs : List ℕ} {n : ℕ} {w : List ℕ} → FacesStand taken P xs n w → Inside P (standing xs n)
unfolding face
corners_in {P = P} {xs = xs} {n = n} p = all_from (CornersBelow P) (record { a = 0; b = 0; c = 0; origin = 0 }) (standing xs n) each
  where
    one : (i : ℕ) → i < 3 * n → get_or (take (3 * n) xs) i 0 < P
    one i h = omega (arith, get_or-take (3 * n) xs i 0 h, p.inside i h)

    each : (k : ℕ) → k < length (standing xs n) → CornersBelow P (face (standing xs n) k)
    each k h =
        let l = length-take-le (3 * n) xs p.fit in
        let f = length_faces_take xs n p.fit in
        subst (CornersBelow P) (sym (face_at (take (3 * n) xs) k (omega arith))) (one (3 * k) (omega arith), one (3 * k + 1) (omega arith), one (3 * k + 2) (omega arith))

-- the faces of the state are those that stand, but for their origins
pub stands_alike : {P : ℕ} {xs : List ℕ} {n : ℕ} {m : State} → Stands P xs n m → Alike m.faces (standing xs n)
stands_alike {m = m} s =
    let a = subst (λ l. Alike (faces_of l) m.faces) s.corners (flat_alike m.faces) in
    record { long = sym a.long; at_a = λ i. sym (a.at_a i); at_b = λ i. sym (a.at_b i); at_c = λ i. sym (a.at_c i) }

-- so its corners are points
pub stands_inside : {taken P : ℕ} {xs : List ℕ} {n : ℕ} {w : List ℕ} {m : State} → FacesStand taken P xs n w → Stands P xs n m → Inside (length m.points) m.faces
stands_inside {P = P} {xs = xs} {n = n} {m = m} p s =
    subst (λ k. Inside k m.faces) (sym s.many) (inside_alike m.faces (standing xs n) (stands_alike s) P (corners_in p))
