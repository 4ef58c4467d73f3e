-- Faces at the front of their room: corners below P, number by number and face by face. Assumes nothing.
use mathlib.Core.Path.{◌≡◌}
use mathlib.Core.List.{List}
use Prim.Native.Nat.{ℕ, zero, suc, ◌+◌, ◌*◌, ◌/◌, ◌%◌, ◌≤◌, ◌<◌}
use native.Mathlib.Omega.{arith}
use lib.ListN.{length, get_or}
use Rattle.leaving.specs.Pass.{standing}
use Rattle.leaving.proofs.Standing.{standing_face}
use Rattle.rules.specs.Mesh.{face}
use Rattle.rule_laws.proofs.Flat.{length_faces_take}
use Rattle.rule_laws.proofs.Rising.{all_from}
use Rattle.rule_laws.proofs.Once.{Inside, CornersBelow, face_inside}

module _ (xs : List ℕ) (n : ℕ) (fit : 3 * n ≤ length xs) where
  -- where each number is below P, so are the corners of each face
  pub corners_inside : (P : ℕ) → ((i : ℕ) → i < 3 * n → get_or xs i 0 < P) → Inside P (standing xs n)
  unfolding face
  corners_inside P below =
      all_from (CornersBelow P) (record { a = 0; b = 0; c = 0; origin = 0 }) (standing xs n)
      (λ i l.
      let h : i < n = omega (arith, length_faces_take xs n fit) in
      rw (standing_face xs n fit i h) (below (3 * i) (omega arith), below (3 * i + 1) (omega arith), below (3 * i + 2) (omega arith)))

  -- and the other way round
  pub inside_corners : (P : ℕ) → Inside P (standing xs n) → (i : ℕ) → i < 3 * n → get_or xs i 0 < P
  inside_corners P inside i h =
      let k = i / 3 in
      let c : CornersBelow P (record { a = get_or xs (3 * k) 0; b = get_or xs (3 * k + 1) 0; c = get_or xs (3 * k + 2) 0; origin = k }) =
      rw (standing_face xs n fit k (omega arith)) at (face_inside P (standing xs n) inside k (omega (arith, length_faces_take xs n fit))) in
      go (i % 3) k (omega arith) (omega arith) c
    where
      go :
          (r k : ℕ) → i ≡ 3 * k + r → r < 3
          → CornersBelow P (record { a = get_or xs (3 * k) 0; b = get_or xs (3 * k + 1) 0; c = get_or xs (3 * k + 2) 0; origin = k })
          → get_or xs i 0 < P
      go zero k e l c = let q : i ≡ 3 * k = omega arith in rw q c.0
      go (suc zero) k e l c = rw e c.1
      go (suc (suc zero)) k e l c = rw e c.2
      go (suc (suc (suc r))) k e l c = absurd (omega arith)
