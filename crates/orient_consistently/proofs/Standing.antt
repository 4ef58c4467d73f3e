-- After the first half of pass 4 the faces stand as before, so the next pass may follow. Assumes nothing.
use mathlib.Core.Path.{◌≡◌, sym, ap, subst, ◌∙◌}
use mathlib.Core.Logic.{inl, inr}
use mathlib.Core.List.{List}
use Prim.Native.Nat.{ℕ, ◌+◌, ◌*◌, ◌/◌, ◌%◌, ◌<◌}
use native.Mathlib.Omega.{arith}
use native.Mathlib.Decide.{ℕ_discrete}
use lib.ListN.{get_or, take}
use Rattle.rules.specs.Mesh.{Face, faces_of, face, exchanged}
use Rattle.rules.specs.Pass4.{oriented}
use Rattle.rule_laws.proofs.Once.{CornersBelow}
use Rattle.rule_laws.proofs.Flat.{own_flat}
use Rattle.rule_laws.proofs.Origins.{oriented_own}
use Rattle.rule_laws.proofs.Turning.{OrExchanged, oriented_turned}
use Rattle.leaving.specs.Pass.{standing, FacesStand}
use Rattle.orient_consistently.specs.Walked.{OrientGives}
use Rattle.orient_consistently.proofs.Turning.{corner_face, front_face}

-- an exchanged face has the same corners
exchanged_below : (P : ℕ) (f g : Face) → OrExchanged f g → CornersBelow P f → CornersBelow P g
unfolding exchanged
exchanged_below P f g (inl e) h = rw e h
exchanged_below P f g (inr e) h = rw e (h.0, h.2, h.1)

module _ {k P : ℕ} {xs : List ℕ} {n : ℕ} {w xs' w' : List ℕ} {r c : ℕ} (p : FacesStand k P xs n w) (g : OrientGives P xs n w xs' w' r c) where
  -- the faces of the room are the rule's
  face_is : (k : ℕ) → k < n → face (oriented (standing xs n)).walk.faces k ≡ corner_face xs' k
  face_is k h =
      sym (ap (λ fs. face fs k) (ap faces_of g.faces ∙ own_flat (oriented (standing xs n)).walk.faces (oriented_own (take (3 * n) xs))))
      ∙ front_face xs' n k (omega (arith, p.fit, g.only_faces.long)) h

  -- whose corners are points
  corners_below : (k : ℕ) → k < n → CornersBelow P (corner_face xs' k)
  corners_below k h =
      subst (CornersBelow P) (face_is k h)
      (exchanged_below P (face (standing xs n) k) (face (oriented (standing xs n)).walk.faces k) ((oriented_turned (standing xs n)).1 k)
      (subst (CornersBelow P) (sym (front_face xs n k p.fit h)) (p.inside (3 * k) (omega arith), p.inside (3 * k + 1) (omega arith), p.inside (3 * k + 2) (omega arith))))

  -- so is each number of the room's front
  inside_after : (i : ℕ) → i < 3 * n → get_or xs' i 0 < P
  inside_after i h = go (ℕ_discrete (i % 3) 0) (ℕ_discrete (i % 3) 1)
    where
      b : CornersBelow P (corner_face xs' (i / 3))
      b = corners_below (i / 3) (omega arith)

      go : Dec (i % 3 ≡ 0) → Dec (i % 3 ≡ 1) → get_or xs' i 0 < P
      go (yes e) d = let k : i ≡ 3 * (i / 3) = omega arith in omega (arith, ap (λ z. get_or xs' z 0) k, b.0)
      go (no e) (yes d) = let k : i ≡ 3 * (i / 3) + 1 = omega arith in omega (arith, ap (λ z. get_or xs' z 0) k, b.1)
      go (no e) (no d) = let k : i ≡ 3 * (i / 3) + 2 = omega arith in omega (arith, ap (λ z. get_or xs' z 0) k, b.2)

  -- the faces stand
  pub still_stand : FacesStand k P xs' n w'
  still_stand =
      record {
        points = p.points;
        few = p.few;
        fit = omega (arith, p.fit, g.only_faces.long);
        inside = inside_after;
        room = omega (arith, p.room, g.only_work.long);
      }
