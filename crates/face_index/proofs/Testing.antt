-- What the tests of corners say, one after the other. Assumes nothing.
use mathlib.Core.Path.{◌≡◌, sym, ap, ◌∙◌}
use mathlib.Core.Bool.{Bool, true, false, ◌&&◌}
use mathlib.Core.List.{List, [], ◌∷◌}
use Prim.Native.Nat.{ℕ, ◌+◌, ◌*◌}
use native.Mathlib.Omega.{arith}
use lib.ListN.{get_or}
use Rattle.rules.specs.Lists.{has}
use Rattle.rules.specs.Mesh.{face, faces_of, corners}
use Rattle.rule_laws.proofs.Flat.{face_at}
use Rattle.face_index.specs.Index.{joins, JoinsAsks}

-- the corners that are read are those of the face
module _ {xs : List ℕ} {f : ℕ} (p : JoinsAsks xs f) (a b : ℕ) where
  read : corners (face (faces_of xs) f) ≡ get_or xs (3 * f) 0 ∷ get_or xs (3 * f + 1) 0 ∷ get_or xs (3 * f + 2) 0 ∷ []
  read = ap (λ g. corners g) (face_at xs f (omega (arith, p.whole, p.here)))

  pub joins_both : {q r : Bool} → q ≡ has a (get_or xs (3 * f) 0 ∷ get_or xs (3 * f + 1) 0 ∷ get_or xs (3 * f + 2) 0 ∷ []) → q ≡ true → r ≡ has b (get_or xs (3 * f) 0 ∷ get_or xs (3 * f + 1) 0 ∷ get_or xs (3 * f + 2) 0 ∷ []) → r ≡ joins xs a b f
  unfolding joins
  joins_both e t g = g ∙ sym (ap (λ l. has a l && has b l) read ∙ rw (← e, t))

  pub joins_none : {q : Bool} → q ≡ has a (get_or xs (3 * f) 0 ∷ get_or xs (3 * f + 1) 0 ∷ get_or xs (3 * f + 2) 0 ∷ []) → q ≡ false → false ≡ joins xs a b f
  unfolding joins
  joins_none e t = sym (ap (λ l. has a l && has b l) read ∙ rw (← e, t))
