-- The rows that the functions leave tell the lines of passes 5 and 6. Assumes nothing.
use mathlib.Core.Path.{◌≡◌, refl, sym, ap, ◌∙◌, subst}
use mathlib.Core.Bool.{Bool, true, false, cond}
use mathlib.Core.List.{List, [], ◌∷◌, map}
use Prim.Native.Nat.{ℕ, ◌+◌, ◌*◌, ◌<◌}
use native.Mathlib.Omega.{arith}
use lib.Dec.{eqb}
use lib.ListN.{length, get_or, take}
use lib.Seq.{length-take-le}
use Rattle.rules.specs.Lists.{below, filter, has}
use Rattle.rules.specs.Mesh.{Face, face, faces_of, flat_faces, corners}
use Rattle.rules.specs.State.{State}
use Rattle.rules.specs.Pass5.{pass5}
use Rattle.rules.specs.Pass6.{marked6}
use Rattle.rules.specs.Mending.{lines5, lines6}
use Rattle.rule_laws.proofs.Flat.{length_flat_faces}
use Rattle.rule_laws.proofs.Once.{Inside}
use Rattle.rule_laws.proofs.Relabel.{Alike, flat_alike}
use Rattle.leaving.specs.Pass.{standing}
use Rattle.mending_rows.specs.Told.{Fates, splits_told, unused_told}
use Rattle.split_laws.specs.Olds.{old_of, takers_of}
use Rattle.split_laws.proofs.Taken.{listed_same}
use Rattle.split_laws.proofs.Lines.{splits}
use Rattle.split_laws.proofs.Rows.{lines5_told, lines6_told}
use Rattle.split_rows.specs.Rows.{SplitAsks, Stands, SplitGives, FlagsGives}
use Rattle.split_rows.proofs.Standing.{stands_inside}

-- a face that lies flat in a list has the corners that stand there
has_flat : (gs : List Face) (xs : List ℕ) (n p i : ℕ) → flat_faces gs ≡ take (3 * n) xs → has p (corners (face (standing xs n) i)) ≡ has p (corners (face gs i))
has_flat gs xs n p i e =
    let a = subst (λ l. Alike (faces_of l) gs) e (flat_alike gs) in
    λ k. has p (a.at_a i k ∷ a.at_b i k ∷ a.at_c i k ∷ [])

module _ {xs : List ℕ} {n P : ℕ} {w : List ℕ} {olds : ℕ} {xs' w' : List ℕ} {r : ℕ} (p : SplitAsks xs n P w olds) (g : SplitGives xs n P w olds xs' w' r) (m : State) (s : Stands P xs n m) where
  -- its corners are points
  inside : Inside (length m.points) m.faces
  inside = stands_inside p.stand s

  -- the faces of the state are n
  as_many : length m.faces ≡ n
  as_many = omega (arith, length_flat_faces m.faces, ap length s.corners, length-take-le (3 * n) xs p.stand.fit)

  -- those that take a point, read from the room of the faces
  takers_read : (q : ℕ) → map (λ i. (face m.faces i).origin) (filter (λ i. has q (corners (face (standing xs' n) i))) (below n)) ≡ takers_of m.faces (pass5 m).faces q
  unfolding takers_of
  takers_read q =
      listed_same n (λ i. (face m.faces i).origin) (λ i. (face m.faces i).origin) (λ i. has q (corners (face (standing xs' n) i))) (λ i. has q (corners (face (pass5 m).faces i))) (λ i h. refl) (λ i h. has_flat (pass5 m).faces xs' n q i (sym (g.faces m s)))
      ∙ ap (λ k. map (λ i. (face m.faces i).origin) (filter (λ i. has q (corners (face (pass5 m).faces i))) (below k))) (sym as_many)

  -- so the row of old points and the room of the faces tell the lines of pass 5
  pub rows_tell5 :
      (t : Fates) → t.splits ≡ r → ((j : ℕ) → j < r → t.old j ≡ get_or w' (olds + j) 0)
      → ((j : ℕ) → j < r → t.takers j ≡ map (λ i. (face m.faces i).origin) (filter (λ i. has (P + j) (corners (face (standing xs' n) i))) (below n)))
      → lines5 m ≡ splits_told P t
  rows_tell5 t e olds-read takers-are =
      lines5_told m inside t (e ∙ many)
      (λ j h. olds-read j (omega (arith, many)) ∙ (g.old m s).each j (omega (arith, many)) ∙ ap (λ k. old_of m.faces k j) (sym s.many))
      (λ j h. takers-are j (omega (arith, many)) ∙ takers_read (P + j) ∙ ap (λ k. takers_of m.faces (pass5 m).faces (k + j)) (sym s.many))
      ∙ ap (λ k. splits_told k t) s.many
    where
      many : r ≡ splits m inside
      many = omega (arith, g.number m s, s.many)

-- a flag, read
flag_is : (b : Bool) → eqb (cond b 1 0) 1 ≡ b
flag_is true = refl
flag_is false = refl

-- the flags of the unused points tell the lines of pass 6
pub rows_tell6 :
    {xs : List ℕ} {n : ℕ} {w : List ℕ} {unused : ℕ} {w' : List ℕ} (P r : ℕ) → FlagsGives xs n (P + r) w unused w'
    → (m : State) → length m.points ≡ P + r → flat_faces m.faces ≡ take (3 * n) xs
    → (t : Fates) → t.splits ≡ r → ((v : ℕ) → v < P + r → t.unused v ≡ eqb (get_or w' (unused + v) 0) 1)
    → lines6 m ≡ unused_told P t
rows_tell6 P r g m e f t q read =
    lines6_told m P t (e ∙ ap (λ z. P + z) (sym q))
    (λ v h.
    let l : v < P + r = subst (λ z. v < P + z) q h in
    read v l ∙ ap (λ z. eqb z 1) ((g.flags m.faces f).each v l) ∙ flag_is (marked6 m.faces v))
