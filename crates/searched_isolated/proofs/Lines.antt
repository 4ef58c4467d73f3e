-- The bytes of the lines of points, point after point, and of those that are kept, face after face. Assumes nothing.
use mathlib.Core.Path.{◌≡◌, refl, sym, ap, ◌∙◌, subst}
use mathlib.Core.Bool.{Bool, true, false, not, ◌&&◌, cond}
use mathlib.Core.List.{List, [], ◌∷◌}
use Prim.Native.Nat.{ℕ, suc, ◌+◌, ◌*◌, ◌/◌, ◌≤◌, ◌<◌}
use native.Mathlib.Omega.{arith}
use native.Mathlib.Numerals.{add-one}
use lib.Dec.{T}
use lib.ListN.{length}
use Rattle.rules.specs.Lists.{below, filter, count}
use Rattle.rules.specs.Mesh.{face}
use Rattle.rules.specs.Line.{decimal}
use Rattle.rule_laws.proofs.Counting.{count_next, count_stay}
use Rattle.rule_laws.proofs.Digits.{decimal_short}
use Rattle.splitting.specs.Corners.{corner_at}
use Rattle.fan_laws.specs.Sums.{sum_of, field}
use Rattle.fan_laws.specs.Opening.{met, single, keeps}
use Rattle.fan_laws.proofs.Sums.{sum_append, sum_below}
use Rattle.face_words.specs.Words.{stands, view, viewed, place}
use Rattle.face_words.proofs.Places.{viewed_face, viewed_length}
use Rattle.searched_fans.proofs.Settling.{field_most}
use Rattle.searched_splits.specs.Splits.{pick_of, met_at}
use Rattle.searched_splits.proofs.Flags.{pick_read, met_read}
use Rattle.searched_isolated.specs.Points.{line_of, first_at, first_length, face_length, kept_length, CornerAsks, FaceAsks}

-- ---- all points

-- the lines of those below v
pub record Told (P bytes v : ℕ) : Type 0 where
  pub most : v ≤ P
  pub sum : bytes ≡ sum_of (λ u. 2 + field u) (below v)
  pub few : bytes ≤ 13 * v

-- none
pub begin : (P : ℕ) → Told P 0 0
begin P = record { most = omega arith; sum = unfold below sum_of in refl; few = omega arith }

-- one number more
sum_last : (g : ℕ → ℕ) (n : ℕ) → sum_of g (below (suc n)) ≡ sum_of g (below n) + g n
unfolding below
sum_last g n = sum_append g (below n) (n ∷ []) ∙ unfold sum_of in (omega arith)

-- the length of a field
size : (n k : ℕ) → k ≡ length (decimal n) → field n ≡ 1 + k
size n k e = unfold field in (omega (arith, e))

-- one point more
pub again : {P bytes v k : ℕ} → Told P bytes v → v < P → k ≡ length (decimal v) → Told P (bytes + (3 + k)) (v + 1)
again {P} {bytes} {v} {k} t h e =
    record {
      most = omega arith;
      sum = parts ∙ sym (sum_last (λ u. 2 + field u) v) ∙ ap (λ n. sum_of (λ u. 2 + field u) (below n)) (sym (add-one v));
      few = omega (arith, t.few, e, decimal_short v);
    }
  where
    parts : bytes + (3 + k) ≡ sum_of (λ u. 2 + field u) (below v) + (2 + field v)
    parts = omega (arith, t.sum, size v k e)

-- all
pub done : {P bytes v : ℕ} → Told P bytes v → P ≤ v → bytes ≡ sum_of (λ u. 2 + field u) (below P)
done {P} {bytes} {v} t h = let e : v ≡ P = omega (arith, t.most) in t.sum ∙ ap (λ n. sum_of (λ u. 2 + field u) (below n)) e

-- ---- one corner

module _ {xs w : List ℕ} {f k : ℕ} (p : CornerAsks xs w f k) {v : ℕ} (pe : v ≡ pick_of (view xs w f).a (view xs w f).b (view xs w f).c k) {r : Bool} (me : r ≡ met_at xs w v f k) where
  -- its point
  point : v ≡ corner_at (viewed xs w) (3 * place w f + k)
  point = pe ∙ pick_read xs w f p.here p.standing k p.corner

  -- whether it was met
  met_is : met (viewed xs w) (corner_at (viewed xs w) (3 * place w f + k)) (3 * place w f + k) ≡ r
  unfolding met_at
  met_is = ap (λ u. met (viewed xs w) u (3 * place w f + k)) (sym point) ∙ sym (met_read xs w f p.here p.standing k v p.corner) ∙ sym me

  -- it was
  pub corner_met : r ≡ true → 0 ≡ first_length xs w f k
  unfolding first_length first_at
  corner_met t = sym (ap (λ (b : Bool). cond b 0 (line_of xs w (3 * place w f + k))) (met_is ∙ t))

  -- it was not
  pub corner_first : {n : ℕ} → r ≡ false → n ≡ length (decimal v) → 3 + n ≡ first_length xs w f k
  unfolding first_length first_at line_of
  corner_first {n} t e =
      omega (arith, size v n e, ap field point)
      ∙ sym (ap (λ (b : Bool). cond b 0 (2 + field (corner_at (viewed xs w) (3 * place w f + k)))) (met_is ∙ t))

-- ---- one face

-- a corner's line has at most 13 bytes
pub first_most : (xs w : List ℕ) (f k : ℕ) → first_length xs w f k ≤ 13
unfolding first_length first_at line_of
first_most xs w f k = go (met (viewed xs w) (corner_at (viewed xs w) (3 * place w f + k)) (3 * place w f + k))
  where
    go : (b : Bool) → cond b 0 (2 + field (corner_at (viewed xs w) (3 * place w f + k))) ≤ 13
    go true = omega arith
    go false = omega (arith, field_most (corner_at (viewed xs w) (3 * place w f + k)))

module _ {xs w : List ℕ} {f : ℕ} (p : FaceAsks xs w f) where
  -- its corners can be read
  pub corner_asks : (k : ℕ) → k < 3 → CornerAsks xs w f k
  corner_asks k h = record { worded = p.worded; here = p.here; standing = p.standing; corner = h }

  -- three equal corners
  pub face_single : single (view xs w f) ≡ true → 0 ≡ face_length xs w f
  unfolding face_length
  face_single e = sym (ap (λ (b : Bool). cond b 0 (first_length xs w f 0 + first_length xs w f 1 + first_length xs w f 2)) (ap single (viewed_face xs w f p.here p.standing) ∙ e))

  -- different ones
  pub face_several : {a b c : ℕ} → single (view xs w f) ≡ false → a ≡ first_length xs w f 0 → b ≡ first_length xs w f 1 → c ≡ first_length xs w f 2 → a + b + c ≡ face_length xs w f
  unfolding face_length
  face_several e ea eb ec =
      (λ j. ea j + eb j + ec j)
      ∙ sym (ap (λ (b : Bool). cond b 0 (first_length xs w f 0 + first_length xs w f 1 + first_length xs w f 2)) (ap single (viewed_face xs w f p.here p.standing) ∙ e))

-- ---- all faces

-- a face's lines have at most 39 bytes
pub face_most : (xs w : List ℕ) (f : ℕ) → face_length xs w f ≤ 39
unfolding face_length
face_most xs w f = go (single (face (viewed xs w) (place w f)))
  where
    go : (b : Bool) → cond b 0 (first_length xs w f 0 + first_length xs w f 1 + first_length xs w f 2) ≤ 39
    go true = omega arith
    go false = omega (arith, first_most xs w f 0, first_most xs w f 1, first_most xs w f 2)

module _ (xs w : List ℕ) where
  -- the lines of those that are kept, of the corners below n
  abbrev pub up_to : ℕ → ℕ
  up_to n = sum_of (line_of xs w) (filter (keeps (viewed xs w)) (below n))

  -- one corner of the face at place p
  corner_keeps : (p id : ℕ) → id / 3 ≡ p → cond (keeps (viewed xs w) id) (line_of xs w id) 0 ≡ cond (single (face (viewed xs w) p)) 0 (first_at xs w id)
  unfolding keeps first_at
  corner_keeps p id e = ap (λ i. cond (not (met (viewed xs w) (corner_at (viewed xs w) id) id) && not (single (face (viewed xs w) i))) (line_of xs w id) 0) e ∙ go (met (viewed xs w) (corner_at (viewed xs w) id) id) (single (face (viewed xs w) p))
    where
      go : (a b : Bool) → cond (not a && not b) (line_of xs w id) 0 ≡ cond b 0 (cond a 0 (line_of xs w id))
      go true true = refl
      go true false = refl
      go false true = refl
      go false false = refl

  -- the three corners of a face that stands
  three_more : (f : ℕ) → up_to (3 * place w f + 3) ≡ up_to (3 * place w f) + face_length xs w f
  unfolding face_length first_length
  three_more f =
      let p = place w f in
      let z : 3 * p + 0 ≡ 3 * p = omega arith in
      let a = sum_below (line_of xs w) (keeps (viewed xs w)) (3 * p) in
      let b = sum_below (line_of xs w) (keeps (viewed xs w)) (3 * p + 1) in
      let c = sum_below (line_of xs w) (keeps (viewed xs w)) (3 * p + 2) in
      let n1 : suc (3 * p) ≡ 3 * p + 1 = omega arith in
      let n2 : suc (3 * p + 1) ≡ 3 * p + 2 = omega arith in
      let n3 : suc (3 * p + 2) ≡ 3 * p + 3 = omega arith in
      let e0 = corner_keeps p (3 * p) (omega arith) in
      let e1 = corner_keeps p (3 * p + 1) (omega arith) in
      let e2 = corner_keeps p (3 * p + 2) (omega arith) in
      omega (arith, ap up_to n1, ap up_to n2, ap up_to n3, a, b, c, e0, e1, e2, ap (λ i. first_at xs w i) z, split (single (face (viewed xs w) p)) (first_at xs w (3 * p + 0)) (first_at xs w (3 * p + 1)) (first_at xs w (3 * p + 2)), ap (λ i. cond (single (face (viewed xs w) p)) 0 (first_at xs w i)) z)
    where
      split : (b : Bool) (i j k : ℕ) → cond b 0 (i + j + k) ≡ cond b 0 i + cond b 0 j + cond b 0 k
      split true i j k = omega arith
      split false i j k = refl

-- the faces before f
pub record Kept (xs w : List ℕ) (bytes f : ℕ) : Type 0 where
  pub most : f ≤ length w
  pub sum : bytes ≡ up_to xs w (3 * place w f)
  pub few : bytes ≤ 39 * f

-- none
pub kept_begin : (xs w : List ℕ) → Kept xs w 0 0
kept_begin xs w = record { most = omega arith; sum = unfold count filter below sum_of in refl; few = omega arith }

-- one that stands
pub kept_more : {xs w : List ℕ} {bytes f r : ℕ} → Kept xs w bytes f → f < length w → stands w f ≡ true → r ≡ face_length xs w f → Kept xs w (bytes + r) (f + 1)
kept_more {xs} {w} {bytes} {f} {r} i h e q =
    let n : 3 * place w f + 3 ≡ 3 * place w (f + 1) = omega (arith, count_next (stands w) f (subst T (sym e) tt), ap (place w) (add-one f)) in
    record { most = omega arith; sum = omega (arith, i.sum, q, three_more xs w f, ap (up_to xs w) n); few = omega (arith, i.few, q, face_most xs w f) }

-- one that is gone
pub kept_same : {xs w : List ℕ} {bytes f : ℕ} → Kept xs w bytes f → f < length w → stands w f ≡ false → Kept xs w bytes (f + 1)
kept_same {xs} {w} {bytes} {f} i h e =
    let n : 3 * place w f ≡ 3 * place w (f + 1) = omega (arith, count_stay (stands w) f e, ap (place w) (add-one f)) in
    record { most = omega arith; sum = i.sum ∙ ap (up_to xs w) n; few = omega (arith, i.few) }

-- all
pub kept_done : {xs w : List ℕ} {bytes f : ℕ} → Kept xs w bytes f → length w ≤ f → bytes ≡ kept_length xs w
unfolding kept_length
kept_done {xs} {w} {bytes} {f} i h =
    let e : f ≡ length w = omega (arith, i.most) in
    let n : 3 * place w f ≡ 3 * length (viewed xs w) = omega (arith, viewed_length xs w, ap (place w) e) in
    i.sum ∙ ap (up_to xs w) n
