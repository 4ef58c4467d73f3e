-- The flat list of corners and the faces: a point is used where it is in the list, and faces are renumbered where each entry is. Assumes nothing.
use mathlib.Core.Path.{◌≡◌, refl, ap}
use mathlib.Core.Bool.{Bool, true, false, ◌||◌, or-false}
use mathlib.Core.List.{List, [], ◌∷◌, ◌++◌, map}
use Prim.Native.Nat.{ℕ, suc, ◌+◌, ◌%◌, ◌<◌}
use native.Mathlib.Numerals.{add-one}
use native.Mathlib.Omega.{arith}
use lib.Dec.{eqb}
use lib.ListN.{length, get_or, take}
use lib.Seq.{take-suc}
use Rattle.rules.specs.Lists.{any, each, has}
use Rattle.rules.specs.Mesh.{faces_from, flat_faces, renamed}
use Rattle.rules.specs.Pass6.{used}

-- a test of two lists in a row
any_append : {A : Type 0} (p : A → Bool) (xs ys : List A) → any p (xs ++ ys) ≡ (any p xs || any p ys)
unfolding any
any_append p [] ys = refl
any_append p (x ∷ xs) ys = rw (any_append p xs ys) (go (p x))
  where
    go : (b : Bool) → (b || (any p xs || any p ys)) ≡ ((b || any p xs) || any p ys)
    go true = refl
    go false = refl

-- one entry more may be the number
pub has_next : (v : ℕ) (xs : List ℕ) (i : ℕ) → i < length xs → has v (take (i + 1) xs) ≡ (has v (take i xs) || eqb v (get_or xs i 0))
unfolding has any
has_next v xs i h = rw (add-one, take-suc xs i 0 h, any_append (eqb v) (take i xs) (get_or xs i 0 ∷ [])) (ap (λ b. has v (take i xs) || b) (or-false (eqb v (get_or xs i 0))))

-- a point is used where it is an entry of the flat list, wherever its faces are counted from
pub used_flat : (v k : ℕ) (xs : List ℕ) → length xs % 3 ≡ 0 → used (faces_from k xs) v ≡ has v xs
unfolding used has any faces_from
used_flat v k [] h = refl
used_flat v k (a ∷ []) h = absurd (omega arith)
used_flat v k (a ∷ b ∷ []) h = absurd (omega arith)
used_flat v k (a ∷ b ∷ c ∷ xs) h = rw (used_flat v (suc k) xs (omega arith)) (go (eqb v a) (eqb v b) (eqb v c) (has v xs))
  where
    go : (x y z r : Bool) → ((x || (y || (z || false))) || r) ≡ (x || (y || (z || r)))
    go true y z r = refl
    go false true z r = refl
    go false false true r = refl
    go false false false r = refl

-- renumbered faces are the renumbered entries
pub flat_renamed : (g : ℕ → ℕ) (k : ℕ) (xs : List ℕ) → length xs % 3 ≡ 0 → flat_faces (map (renamed g) (faces_from k xs)) ≡ map g xs
unfolding flat_faces each renamed faces_from
flat_renamed g k [] h = refl
flat_renamed g k (a ∷ []) h = absurd (omega arith)
flat_renamed g k (a ∷ b ∷ []) h = absurd (omega arith)
flat_renamed g k (a ∷ b ∷ c ∷ xs) h = ap (λ l. g a ∷ g b ∷ g c ∷ l) (flat_renamed g (suc k) xs (omega arith))
