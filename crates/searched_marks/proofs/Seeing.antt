-- Words that agree in their two lowest bits stand for the same list. Assumes nothing.
use mathlib.Core.Path.{◌≡◌, ap}
use mathlib.Core.Bool.{Bool, cond}
use mathlib.Core.List.{List}
use Prim.Native.Nat.{ℕ, ◌/◌, ◌%◌}
use native.Mathlib.Omega.{arith}
use lib.Dec.{eqb}
use lib.ListN.{length, get_or}
use Rattle.rules.specs.Lists.{below, count}
use Rattle.rules.specs.Mesh.{Face, face, faces_of, exchanged}
use Rattle.face_words.specs.Words.{stands, straight, view, viewed, place}
use Rattle.searched_marks.specs.Marks.{mark_at}

-- as many words, which agree in bits 0 and 1
pub record Sight (w w' : List ℕ) : Type 0 where
  pub long : length w' ≡ length w
  pub same : (f : ℕ) → get_or w' f 0 % 4 ≡ get_or w f 0 % 4

module _ {w w' : List ℕ} (h : Sight w w') where
  -- the same faces stand
  pub stands_same : stands w' ≡ stands w
  unfolding stands
  stands_same = λ i f. one f i
    where
      one : (f : ℕ) → eqb (get_or w' f 0 % 2) 0 ≡ eqb (get_or w f 0 % 2) 0
      one f = let e : get_or w' f 0 % 2 ≡ get_or w f 0 % 2 = omega (arith, h.same f) in ap (λ x. eqb x 0) e

  straight_same : (f : ℕ) → straight w' f ≡ straight w f
  unfolding straight
  straight_same f = let e : get_or w' f 0 / 2 % 2 ≡ get_or w f 0 / 2 % 2 = omega (arith, h.same f) in ap (λ x. eqb x 0) e

  -- in the same way
  pub view_same : (xs : List ℕ) → view xs w' ≡ view xs w
  unfolding view
  view_same xs = λ i f. ap (λ b. cond b (face (faces_of xs) f) (exchanged (face (faces_of xs) f))) (straight_same f) i

  -- so the list is the same
  pub viewed_same : (xs : List ℕ) → viewed xs w' ≡ viewed xs w
  viewed_same xs = rw (stands_same, view_same xs, h.long)

  -- and every face has its place
  pub place_same : (f : ℕ) → place w' f ≡ place w f
  place_same f = ap (λ (p : ℕ → Bool). count p (below f)) stands_same

  -- and its mark
  pub mark_same : (m : List Face → ℕ → Bool) (xs : List ℕ) (f : ℕ) → mark_at m xs w' f ≡ mark_at m xs w f
  unfolding mark_at
  mark_same m xs f = rw (viewed_same xs, place_same f, stands_same)
