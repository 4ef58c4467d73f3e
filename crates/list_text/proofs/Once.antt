-- The corners at a point, in rising order, name each face with the point once, if a face that was just named is left out. Assumes nothing.
use mathlib.Core.Path.{◌≡◌, refl, sym, ap, ◌∙◌}
use mathlib.Core.Bool.{Bool, true, false, ◌||◌, cond}
use mathlib.Core.List.{List, [], ◌∷◌, ◌++◌, append-nil}
use Prim.Native.Nat.{ℕ, zero, suc, ◌+◌, ◌*◌, ◌/◌, ◌<◌}
use native.Mathlib.Omega.{arith}
use native.Mathlib.Decide.{ℕ_discrete}
use borrow.Author.Tests.{eq-eqb, ne_eqb}
use lib.Dec.{eqb}
use lib.ListN.{length, get_or}
use Rattle.rows.specs.Filter.{keep}
use Rattle.rows.specs.Retain.{up_to}
use Rattle.rows.proofs.FilterLaws as filter-laws
use Rattle.rows.proofs.FilterLaws.{All}
use Rattle.sorting.specs.Groups.{having, key_in}
use Rattle.sorting.proofs.Rising.{Rise, all_imp, up_to_rise}
use Rattle.rules.specs.Lists.{below, filter, any, each, has}
use Rattle.rules.specs.Mesh.{Face, faces_of, face, corners}
use Rattle.rule_laws.proofs.Lists.{each_append}
use Rattle.rule_laws.proofs.Flat.{face_in}
use Rattle.list_text.specs.Written.{once}

-- the corners of face i
abbrev threes : ℕ → List ℕ
threes i = 3 * i ∷ (3 * i + 1) ∷ (3 * i + 2) ∷ []

-- three numbers behind a list
three_more : (xs : List ℕ) (a b c : ℕ) → ((xs ++ (a ∷ [])) ++ (b ∷ [])) ++ (c ∷ []) ≡ xs ++ (a ∷ b ∷ c ∷ [])
three_more [] a b c = refl
three_more (x ∷ xs) a b c = ap (λ (l : List ℕ). x ∷ l) (three_more xs a b c)

-- one face more
each_more : {B : Type 0} (h : ℕ → List B) (n : ℕ) → each h (up_to (suc n)) ≡ each h (up_to n) ++ h n
unfolding each
each_more h n = each_append h (up_to n) (n ∷ []) ∙ ap (λ l. each h (up_to n) ++ l) (append-nil (h n))

-- the corners of n faces, face by face
face_by_face : (n : ℕ) → up_to (3 * n) ≡ each threes (up_to n)
face_by_face zero = unfold each in refl
face_by_face (suc n) =
    let m = 3 * n in
    let e : 3 * suc n ≡ suc (suc (suc m)) = omega arith in
    let one : suc m ≡ m + 1 = omega arith in
    let two : suc (suc m) ≡ m + 2 = omega arith in
    ap up_to e ∙ three_more (up_to m) m (suc m) (suc (suc m)) ∙ (λ t. face_by_face n t ++ (m ∷ one t ∷ two t ∷ [])) ∙ sym (each_more threes n)

-- 0, 1, .., n - 1 by both names
up_to_below : (n : ℕ) → up_to n ≡ below n
unfolding below
up_to_below zero = refl
up_to_below (suc n) = ap (λ l. l ++ (n ∷ [])) (up_to_below n)

-- two tests that agree on the members
filter_alike : (p q : ℕ → Bool) (xs : List ℕ) → All (λ x. p x ≡ q x) xs → filter p xs ≡ filter q xs
unfolding filter
filter_alike p q [] a = refl
filter_alike p q (x ∷ xs) a = λ t. cond (a.0 t) (x ∷ filter_alike p q xs a.1 t) (filter_alike p q xs a.1 t)

module _ (f : ℕ → ℕ) (v : ℕ) where
  -- the corners at v, face by face
  having_each : (is : List ℕ) → having f v (each threes is) ≡ each (λ i. having f v (threes i)) is
  unfolding each
  having_each [] = refl
  having_each (i ∷ is) = filter-laws.filter_append (λ x. eqb (f x) v) (threes i) (each threes is) ∙ ap (λ l. having f v (threes i) ++ l) (having_each is)

  -- a corner of face i is at v
  abbrev keeps : ℕ → Bool
  keeps i = eqb (f (3 * i)) v || (eqb (f (3 * i + 1)) v || (eqb (f (3 * i + 2)) v || false))

  -- a corner of a face that was not just named, and of one that was
  newly : (p i id : ℕ) (ids : List ℕ) → (i ≡ p → ⊥) → id / 3 ≡ i → once p (id ∷ ids) ≡ i ∷ once i ids
  newly p i id ids h e = rw (e, ne_eqb i p h) refl

  again : (i id : ℕ) (ids : List ℕ) → id / 3 ≡ i → once i (id ∷ ids) ≡ once i ids
  again i id ids e = rw (e, eq-eqb i i refl) refl

  -- the corners of one face name it once, if one of them is at v
  once_face : (p i : ℕ) (rest : List ℕ) → (i ≡ p → ⊥) → once p (having f v (threes i) ++ rest) ≡ cond (keeps i) (i ∷ once i rest) (once p rest)
  once_face p i rest h = go (eqb (f (3 * i)) v) (eqb (f (3 * i + 1)) v) (eqb (f (3 * i + 2)) v)
    where
      a : 3 * i / 3 ≡ i
      a = omega arith

      b : (3 * i + 1) / 3 ≡ i
      b = omega arith

      c : (3 * i + 2) / 3 ≡ i
      c = omega arith

      go : (x y z : Bool) → once p (keep x (3 * i) (keep y (3 * i + 1) (keep z (3 * i + 2) [])) ++ rest) ≡ cond (x || (y || (z || false))) (i ∷ once i rest) (once p rest)
      go true true true = newly p i (3 * i) ((3 * i + 1) ∷ (3 * i + 2) ∷ rest) h a ∙ ap (λ l. i ∷ l) (again i (3 * i + 1) ((3 * i + 2) ∷ rest) b ∙ again i (3 * i + 2) rest c)
      go true true false = newly p i (3 * i) ((3 * i + 1) ∷ rest) h a ∙ ap (λ l. i ∷ l) (again i (3 * i + 1) rest b)
      go true false true = newly p i (3 * i) ((3 * i + 2) ∷ rest) h a ∙ ap (λ l. i ∷ l) (again i (3 * i + 2) rest c)
      go true false false = newly p i (3 * i) rest h a
      go false true true = newly p i (3 * i + 1) ((3 * i + 2) ∷ rest) h b ∙ ap (λ l. i ∷ l) (again i (3 * i + 2) rest c)
      go false true false = newly p i (3 * i + 1) rest h b
      go false false true = newly p i (3 * i + 2) rest h c
      go false false false = refl

  -- so of rising faces each is named once
  once_each : (p : ℕ) (is : List ℕ) → All (λ i. i ≡ p → ⊥) is → Rise (λ x y. x < y) is → once p (each (λ i. having f v (threes i)) is) ≡ filter keeps is
  unfolding each filter
  once_each p [] a r = refl
  once_each p (i ∷ is) a r =
      once_face p i (each (λ i. having f v (threes i)) is) a.0
      ∙ (λ t. cond (keeps i) (i ∷ once_each i is (all_imp (λ j. i < j) (λ j. j ≡ i → ⊥) (λ j l. omega arith) is r.0) r.1 t) (once_each p is a.1 r.1 t))

-- equality of numbers, turned round
eqb_turn : (a b : ℕ) → eqb a b ≡ eqb b a
eqb_turn a b = go (ℕ_discrete a b)
  where
    go : Dec (a ≡ b) → eqb a b ≡ eqb b a
    go (yes e) = eq-eqb a b e ∙ sym (eq-eqb b a (sym e))
    go (no e) = ne_eqb a b e ∙ sym (ne_eqb b a (λ r. e (sym r)))

module _ (xs : List ℕ) (n v : ℕ) (long : length xs ≡ 3 * n) where
  -- a corner at v is the point v in the rules' words
  keeps_has : (i : ℕ) → i < n → keeps (key_in xs) v i ≡ has v (corners (face (faces_of xs) i))
  unfolding has any
  keeps_has i h =
      (λ t. eqb_turn (get_or xs (3 * i) 0) v t || (eqb_turn (get_or xs (3 * i + 1) 0) v t || (eqb_turn (get_or xs (3 * i + 2) 0) v t || false)))
      ∙ ap (λ (g : Face). has v (corners g)) (sym (face_in xs i (omega (arith, long))))

  -- the faces with the point v, rising, each once
  pub once_is : once n (having (key_in xs) v (up_to (3 * n))) ≡ filter (λ i. has v (corners (face (faces_of xs) i))) (below n)
  once_is =
      let r = up_to_rise n in
      ap (λ l. once n (having (key_in xs) v l)) (face_by_face n)
      ∙ ap (once n) (having_each (key_in xs) v (up_to n))
      ∙ once_each (key_in xs) v n (up_to n) (all_imp (λ i. i < n) (λ i. i ≡ n → ⊥) (λ i l. omega arith) (up_to n) r.1) r.0
      ∙ filter_alike (keeps (key_in xs) v) (λ i. has v (corners (face (faces_of xs) i))) (up_to n)
      (all_imp (λ i. i < n) (λ i. keeps (key_in xs) v i ≡ has v (corners (face (faces_of xs) i))) keeps_has (up_to n) r.1)
      ∙ ap (filter (λ i. has v (corners (face (faces_of xs) i)))) (up_to_below n)
