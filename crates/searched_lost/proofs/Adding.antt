-- The lines of the points that no face takes, added up face after face. Assumes nothing.
use mathlib.Core.Path.{◌≡◌, refl, sym, ap, ◌∙◌, subst}
use mathlib.Core.Bool.{Bool, true, false}
use mathlib.Core.List.{List, [], ◌∷◌}
use Prim.Native.Nat.{ℕ, suc, ◌+◌, ◌*◌, ◌≤◌, ◌<◌}
use native.Mathlib.Omega.{arith}
use native.Mathlib.Numerals.{add-one}
use lib.Dec.{T}
use lib.ListN.{length}
use Rattle.rules.specs.Lists.{below, filter, count}
use Rattle.rule_laws.proofs.Counting.{count_next, count_stay}
use Rattle.fan_laws.specs.Sums.{sum_of}
use Rattle.fan_laws.proofs.Sums.{sum_append}
use Rattle.face_words.specs.Words.{stands, viewed, place}
use Rattle.face_words.proofs.Places.{viewed_length}
use Rattle.searched_fans.proofs.Meeting.{stands_alike}
use Rattle.searched_splits.specs.Splits.{id_of}
use Rattle.searched_splits.proofs.Flags.{stage_alike}
use Rattle.searched_lost.specs.Lost.{lost_line, lost_face, lost_to, LostAsks, FaceAsks, CornerAsks}
use Rattle.searched_lost.proofs.Losing.{line_most}

next : (g : ℕ → ℕ) (n : ℕ) → sum_of g (below (suc n)) ≡ sum_of g (below n) + g n
unfolding below
next g n = sum_append g (below n) (n ∷ []) ∙ unfold sum_of in (omega arith)

-- the three corners of a face
three_more : (xs w : List ℕ) (P f : ℕ) → lost_to xs w P (3 * place w f + 3) ≡ lost_to xs w P (3 * place w f) + lost_face xs w P f
unfolding lost_face
three_more xs w P f =
    let p = place w f in
    let z : 3 * p + 0 ≡ 3 * p = omega arith in
    let n1 : suc (3 * p) ≡ 3 * p + 1 = omega arith in
    let n2 : suc (3 * p + 1) ≡ 3 * p + 2 = omega arith in
    let n3 : suc (3 * p + 2) ≡ 3 * p + 3 = omega arith in
    omega (arith, ap (lost_to xs w P) n1, ap (lost_to xs w P) n2, ap (lost_to xs w P) n3, next (lost_line xs w P) (3 * p), next (lost_line xs w P) (3 * p + 1), next (lost_line xs w P) (3 * p + 2), ap (lost_line xs w P) z)

pub face_most : (xs w : List ℕ) (P f : ℕ) → lost_face xs w P f ≤ 39
unfolding lost_face
face_most xs w P f = omega (arith, line_most xs w P (id_of w f 0), line_most xs w P (id_of w f 1), line_most xs w P (id_of w f 2))

abbrev pub corner_ask : {xs w : List ℕ} {P f : ℕ} → FaceAsks xs w P f → (k : ℕ) → k < 3 → CornerAsks xs w P f k
corner_ask q k h = record { face = q; corner = h }

pub face_sum : (xs w : List ℕ) (P f : ℕ) {a b c : ℕ} → a ≡ lost_line xs w P (id_of w f 0) → b ≡ lost_line xs w P (id_of w f 1) → c ≡ lost_line xs w P (id_of w f 2) → a + b + c ≡ lost_face xs w P f
unfolding lost_face
face_sum xs w P f ea eb ec = omega (arith, ea, eb, ec)

-- the faces before f are gone through
pub record Gone {xs w : List ℕ} {P : ℕ} (q : LostAsks xs w P) (bytes f : ℕ) : Type 0 where
  pub most : f ≤ length w
  pub sum : bytes ≡ lost_to xs q.base P (3 * place q.base f)
  pub few : bytes ≤ 39 * f

module _ {xs w : List ℕ} {P : ℕ} (q : LostAsks xs w P) where
  pub gone_begin : Gone q 0 0
  gone_begin = record { most = omega arith; sum = unfold count filter below sum_of in refl; few = omega arith }

  module _ {bytes f : ℕ} (g : Gone q bytes f) (h : f < length w) where
    abbrev b : List ℕ
    b = q.base

    pub inside : f < length b
    inside = omega (arith, q.stage.long)

    pub same : stands w f ≡ stands b f
    same = stands_alike w b f (stage_alike q.split.plain q.stage f inside)

    abbrev pub face-ask : {r : Bool} → r ≡ stands w f → r ≡ true → FaceAsks xs w P f
    face-ask e t = record { all = q; here = inside; standing = subst T (sym (sym same ∙ sym e ∙ t)) tt }

    pub gone_more : {r : Bool} → r ≡ stands w f → r ≡ true → {n : ℕ} → n ≡ lost_face xs b P f → Gone q (bytes + n) (f + 1)
    gone_more e t {n} en =
        let k : 3 * place b f + 3 ≡ 3 * place b (f + 1) = omega (arith, count_next (stands b) f (subst T (sym (sym same ∙ sym e ∙ t)) tt), ap (place b) (add-one f)) in
        record { most = omega arith; sum = omega (arith, g.sum, en, three_more xs b P f, ap (lost_to xs b P) k); few = omega (arith, g.few, en, face_most xs b P f) }

    pub gone_same : {r : Bool} → r ≡ stands w f → r ≡ false → Gone q bytes (f + 1)
    gone_same e t =
        let k : 3 * place b f ≡ 3 * place b (f + 1) = omega (arith, count_stay (stands b) f (sym same ∙ sym e ∙ t), ap (place b) (add-one f)) in
        record { most = omega arith; sum = g.sum ∙ ap (lost_to xs b P) k; few = omega (arith, g.few) }

  pub gone_done : {bytes f : ℕ} → Gone q bytes f → length w ≤ f → bytes ≡ lost_to xs q.base P (3 * length (viewed xs q.base))
  gone_done {bytes} {f} g h =
      let e : f ≡ length q.base = omega (arith, g.most, q.stage.long) in
      let n : 3 * place q.base f ≡ 3 * length (viewed xs q.base) = omega (arith, viewed_length xs q.base, ap (place q.base) e) in
      g.sum ∙ ap (lost_to xs q.base P) n
