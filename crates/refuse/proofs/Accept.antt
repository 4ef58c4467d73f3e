-- What the checks leave where they find nothing: the facts that the code after them starts from. Assumes nothing.
use mathlib.Core.Path.{◌≡◌}
use mathlib.Core.Bool.{Bool, true, false, not, ◌||◌}
use mathlib.Core.Logic.{◌⊎◌, inl, inr}
use mathlib.Core.List.{List, [], ◌∷◌}
use Prim.Native.Nat.{ℕ, zero, suc, ◌/◌, ◌%◌, ◌≤◌, ◌<◌}
use native.Mathlib.Nat.{not-suc-le-zero}
use native.Mathlib.Omega.{arith}
use lib.ListN.{length, get_or}
use lib.Dec.{T, eqb, leb, ltb, eqb→eq, leb→le, ltb→lt}
use lib.Ieee.{Float}
use Rattle.rules.specs.Lists.{below}
use Rattle.rules.specs.Mesh.{points_of, faces_from, faces_of}
use Rattle.rules.specs.Refusal.{ok, no1, no2, no3_options, no4, no5, no6, no9, no10, no_patch, most_points, most_faces}
use Rattle.rule_laws.proofs.Once.{Inside}
use Rattle.rule_laws.proofs.Rising.{All, all_at}
use Rattle.rule_laws.proofs.Decided.{unless_ok}
use Rattle.rule_laws.proofs.Firsts.{at_first_all}
use Rattle.rule_laws.proofs.Accepted.{no5_inside}
use Rattle.refuse.specs.Accepted.{Faces, Accepted}
use Rattle.refuse.proofs.Singles.{no2_fine}

-- ---- what a single check leaves

-- 1: a multiple of 3
no1_fine : (p n : ℕ) → no1 p n ≡ ok → n % 3 ≡ 0
unfolding no1
no1_fine p n e = eqb→eq (n % 3) 0 (unless_ok 1 p (eqb (n % 3) 0) e)

-- 3: options of six bits
pub options_fine : (o : ℕ) → no3_options o ≡ ok → o ≤ 63
unfolding no3_options
options_fine o e = leb→le o 63 (unless_ok 3 1 (leb o 63) e)

-- 6: no room is too short
pub rooms_fine : (stated given : List ℕ) → no6 stated given ≡ ok → All (λ k. T (not (ltb (get_or given k 0) (get_or stated k 0)))) (below (length stated))
unfolding no6
rooms_fine stated given e = at_first_all 6 (λ k. ltb (get_or given k 0) (get_or stated k 0)) (below (length stated)) e

-- 9: each label is known
pub known_fine : (C : ℕ) (labels : List ℕ) → no9 C labels ≡ ok → (j : ℕ) → j < length labels → (get_or labels j 0 ≡ no_patch) ⊎ (get_or labels j 0 < C)
unfolding no9
known_fine C labels e j l =
    split (get_or labels j 0)
    (all_at (λ l. T (not (not (eqb l no_patch || ltb l C)))) labels 0 j (at_first_all 9 (λ l. not (eqb l no_patch || ltb l C)) labels e) l)
  where
    split : (n : ℕ) → T (not (not (eqb n no_patch || ltb n C))) → (n ≡ no_patch) ⊎ (n < C)
    split n t = go (eqb n no_patch) (ltb n C) (eqb→eq n no_patch) (ltb→lt n C) t
      where
        go : (x y : Bool) → (T x → n ≡ no_patch) → (T y → n < C) → T (not (not (x || y))) → (n ≡ no_patch) ⊎ (n < C)
        go true y p q t = inl (p tt)
        go false true p q t = inr (q tt)
        go false false p q t = absurd t

-- 10: as many labels as faces
pub labels_fine : (F : ℕ) (labels : List ℕ) → no10 F labels ≡ ok → length labels ≡ F
unfolding no10
labels_fine F labels e = eqb→eq (length labels) F (unless_ok 10 0 (eqb (length labels) F) e)

-- ---- points and faces

-- every corner is below P, by its place in the flat list, wherever its faces are counted from
inside_at : (P k : ℕ) (xs : List ℕ) → length xs % 3 ≡ 0 → Inside P (faces_from k xs) → (j : ℕ) → j < length xs → get_or xs j 0 < P
unfolding faces_from
inside_at P k [] m h j l = absurd (not-suc-le-zero l)
inside_at P k (a ∷ []) m h j l = absurd (omega arith)
inside_at P k (a ∷ b ∷ []) m h j l = absurd (omega arith)
inside_at P k (a ∷ b ∷ c ∷ xs) m h zero l = h.0.0
inside_at P k (a ∷ b ∷ c ∷ xs) m h (suc zero) l = h.0.1
inside_at P k (a ∷ b ∷ c ∷ xs) m h (suc (suc zero)) l = h.0.2
inside_at P k (a ∷ b ∷ c ∷ xs) m h (suc (suc (suc j))) l = inside_at P (suc k) xs (omega arith) h.1 j (omega arith)

-- 1, 2 and 5, of the faces over P points
pub faces_from_row :
    (P : ℕ) (faces : List ℕ) → no1 1 (length faces) ≡ ok → no2 0 P most_points ≡ ok → no2 1 (length faces / 3) most_faces ≡ ok → no5 P (faces_of faces) ≡ ok
    → Faces P faces
faces_from_row P faces a b c d =
    let m = no1_fine 1 (length faces) a in
    record {
      whole = m;
      few = no2_fine 1 (length faces / 3) most_faces c;
      points = no2_fine 0 P most_points b;
      below = inside_at P 0 faces m (no5_inside P (faces_of faces) d);
    }

-- 1, 2, 4 and 5, of points and faces
pub input_from :
    (points : List Float) (faces : List ℕ) → no1 0 (length points) ≡ ok → no1 1 (length faces) ≡ ok → no2 0 (length points / 3) most_points ≡ ok
    → no2 1 (length faces / 3) most_faces ≡ ok → no4 (points_of points) ≡ ok → no5 (length points / 3) (faces_of faces) ≡ ok → Accepted points faces
input_from points faces a b c d e f =
    record { whole = no1_fine 0 (length points) a; faces_fine = faces_from_row (length points / 3) faces b c d f; domain = e }
