-- The line of the point that is split off for one corner, by the marks of its face. Assumes nothing.
use mathlib.Core.Path.{◌≡◌, refl, sym, ap, ap₂, ◌∙◌, subst}
use mathlib.Core.Bool.{Bool, true, false, not, ◌&&◌, cond}
use mathlib.Core.List.{List}
use Prim.Native.Nat.{ℕ, zero, suc, ◌+◌, ◌*◌, ◌/◌, ◌%◌, ◌≤◌, ◌<◌}
use native.Mathlib.Omega.{arith}
use borrow.Author.Tests.{eq-eqb, ne_eqb, eqb-true}
use lib.Dec.{T, eqb}
use lib.ListN.{length, get_or}
use Rattle.rules.specs.Mesh.{Face, face}
use Rattle.rules.specs.Line.{decimal}
use Rattle.rule_laws.proofs.Digits.{decimal_short}
use Rattle.rule_laws.proofs.Counting.{count_below_le}
use Rattle.fan_laws.specs.Sums.{field}
use Rattle.fan_laws.specs.Opening.{opens, single, giver, lost, rank, before}
use Rattle.fan_laws.proofs.Ranks.{rank_count}
use Rattle.face_words.specs.Words.{stands, view, viewed, place}
use Rattle.face_words.specs.Views.{Worded}
use Rattle.face_words.proofs.Places.{viewed_face, viewed_length, place_in}
use Rattle.searched_fans.proofs.Meeting.{view_alike}
use Rattle.searched_splits.specs.Splits.{bit_of, pick_of, gives_in, id_of}
use Rattle.searched_splits.proofs.Flags.{by_three, stage_alike, pick_read}
use Rattle.searched_ranks.specs.Ranks.{marked_in, rank_by}
use Rattle.searched_ranks.proofs.Ranking.{mark_is, rank_found}
use Rattle.searched_lost.specs.Lost.{lost_line, CornerAsks}

-- a line has at most 13 bytes
pub line_most : (xs w : List ℕ) (P id : ℕ) → lost_line xs w P id ≤ 13
unfolding lost_line field
line_most xs w P id = go (opens (viewed xs w) id && lost (viewed xs w) id)
  where
    go : (b : Bool) → cond b (2 + suc (length (decimal (P + rank (viewed xs w) id)))) 0 ≤ 13
    go true = omega (arith, decimal_short (P + rank (viewed xs w) id))
    go false = omega arith

module _ {xs w : List ℕ} {P f k : ℕ} (q : CornerAsks xs w P f k) where
  abbrev base : List ℕ
  base = q.face.all.base

  abbrev fs : List Face
  fs = viewed xs base

  abbrev id : ℕ
  id = id_of base f k

  -- what the functions ask
  pub worded : Worded xs w
  worded = let s = q.face.all.stage.long in let d = q.face.all.split.worded in record { long = omega (arith, d.long); few = omega (arith, d.few) }

  pub here : f < length w
  here = omega (arith, q.face.all.stage.long, q.face.here)

  -- a mark
  marks : marked_in (get_or w f 0) k ≡ opens fs id
  marks = mark_is q.face.all.split.plain q.face.all.stage f k q.face.here q.face.standing q.corner

  -- the face
  seen : view xs w f ≡ face fs (id / 3)
  seen =
      let e : place base f ≡ id / 3 = omega (arith, q.corner) in
      view_alike xs w base f (stage_alike q.face.all.split.plain q.face.all.stage f q.face.here)
      ∙ sym (viewed_face xs base f q.face.here q.face.standing)
      ∙ ap (face fs) e

  -- the corner by which it is renamed
  gives_is : opens fs id ≡ true → gives_in (get_or w f 0) k ≡ eqb id (giver fs (id / 3))
  gives_is o =
      let e : id / 3 ≡ place base f = omega (arith, q.corner) in
      rw e (by_three (λ j. opens fs (id_of base f j) ≡ true → gives_in (get_or w f 0) j ≡ eqb (id_of base f j) (giver fs (place base f))) zeroth oneth twoth k q.corner o)
    where
      p : ℕ
      p = place base f

      z : 3 * place base f + 0 ≡ 3 * place base f
      z = omega arith

      first_mark : eqb (get_or w f 0 / 128 % 2) 1 ≡ opens fs (3 * place base f)
      first_mark =
          let m : eqb (get_or w f 0 / 128 % 2) 1 ≡ opens fs (3 * place base f + 0) = unfold bit_of marked_in in (mark_is q.face.all.split.plain q.face.all.stage f 0 q.face.here q.face.standing (omega arith)) in
          m ∙ ap (opens fs) z

      zeroth : opens fs (id_of base f 0) ≡ true → gives_in (get_or w f 0) 0 ≡ eqb (id_of base f 0) (giver fs (place base f))
      zeroth h = unfold gives_in giver in (sym (ap (λ b. eqb (3 * place base f + 0) (cond b (3 * place base f) (3 * place base f + 1))) (ap (opens fs) (sym z) ∙ h) ∙ eq-eqb (3 * place base f + 0) (3 * place base f) z))

      oneth : opens fs (id_of base f 1) ≡ true → gives_in (get_or w f 0) 1 ≡ eqb (id_of base f 1) (giver fs (place base f))
      oneth h = unfold gives_in giver in (go (opens fs (3 * place base f)) first_mark)
        where
          go : (b : Bool) → eqb (get_or w f 0 / 128 % 2) 1 ≡ b → eqb (get_or w f 0 / 128 % 2) 0 ≡ eqb (3 * place base f + 1) (cond b (3 * place base f) (3 * place base f + 1))
          go true m = let e = eqb-true (get_or w f 0 / 128 % 2) 1 m in ap (λ n. eqb n 0) e ∙ sym (ne_eqb (3 * place base f + 1) (3 * place base f) (λ s. absurd (omega arith)))
          go false m = let e : get_or w f 0 / 128 % 2 ≡ 0 = zero_of (get_or w f 0 / 128 % 2) (omega arith) m in ap (λ n. eqb n 0) e ∙ sym (eq-eqb (3 * place base f + 1) (3 * place base f + 1) refl)
            where
              zero_of : (n : ℕ) → n < 2 → eqb n 1 ≡ false → n ≡ 0
              zero_of zero l r = refl
              zero_of (suc zero) l r = absurd (subst T r tt)
              zero_of (suc (suc n)) l r = absurd (omega arith)

      twoth : opens fs (id_of base f 2) ≡ true → gives_in (get_or w f 0) 2 ≡ eqb (id_of base f 2) (giver fs (place base f))
      twoth h = unfold gives_in giver in (go (opens fs (3 * place base f)))
        where
          go : (b : Bool) → false ≡ eqb (3 * place base f + 2) (cond b (3 * place base f) (3 * place base f + 1))
          go true = sym (ne_eqb (3 * place base f + 2) (3 * place base f) (λ s. absurd (omega arith)))
          go false = sym (ne_eqb (3 * place base f + 2) (3 * place base f + 1) (λ s. absurd (omega arith)))

  -- no mark
  pub unmarked_none : {r : Bool} → r ≡ marked_in (get_or w f 0) k → r ≡ false → 0 ≡ lost_line xs base P id
  unfolding lost_line
  unmarked_none e n = sym (ap (λ b. cond (b && lost fs id) (2 + field (P + rank fs id)) 0) (sym marks ∙ sym e ∙ n))

  never : (b : Bool) → (b && false) ≡ false
  never true = refl
  never false = refl

  -- different corners
  pub several_none : single (view xs w f) ≡ false → 0 ≡ lost_line xs base P id
  unfolding lost_line lost
  several_none n = sym (ap (λ b. cond (opens fs id && (b && not (eqb id (giver fs (id / 3))))) (2 + field (P + rank fs id)) 0) (ap single (sym seen) ∙ n) ∙ ap (λ b. cond b (2 + field (P + rank fs id)) 0) (never (opens fs id)))

  module _ {r : Bool} (e : r ≡ marked_in (get_or w f 0) k) (t : r ≡ true) where
    open_is : opens fs id ≡ true
    open_is = sym marks ∙ sym e ∙ t

    -- it takes its own
    pub given_none : gives_in (get_or w f 0) k ≡ true → 0 ≡ lost_line xs base P id
    unfolding lost_line lost
    given_none g = sym (ap (λ b. cond (opens fs id && (single (face fs (id / 3)) && not b)) (2 + field (P + rank fs id)) 0) (sym (gives_is open_is) ∙ g) ∙ ap (λ b. cond (opens fs id && b) (2 + field (P + rank fs id)) 0) (never (single (face fs (id / 3)))) ∙ ap (λ b. cond b (2 + field (P + rank fs id)) 0) (never (opens fs id)))

    module _ {v : ℕ} (pe : v ≡ pick_of (view xs w f).a (view xs w f).b (view xs w f).c k) {n : ℕ} (ne : n ≡ rank_by xs w v (3 * f + k)) where
      is_rank : n ≡ rank fs id
      is_rank =
          ne
          ∙ ap (λ u. rank_by xs w u (3 * f + k)) (pe ∙ ap (λ y. pick_of y.a y.b y.c k) (view_alike xs w base f (stage_alike q.face.all.split.plain q.face.all.stage f q.face.here)) ∙ pick_read xs base f q.face.here q.face.standing k q.corner)
          ∙ rank_found q.face.all.split.plain q.face.all.stage f k q.face.here q.face.standing q.corner

      pub rank_few : n ≤ 3145728
      rank_few =
          omega (
            arith,
            is_rank,
            rank_count fs id (omega (arith, place_in xs base f q.face.here q.face.standing, q.corner)),
            count_below_le (λ y. before fs y id && opens fs y) (3 * length fs),
            viewed_length xs base,
            count_below_le (stands base) (length base),
            q.face.all.split.worded.few,
          )

      pub lost_line_is : single (view xs w f) ≡ true → gives_in (get_or w f 0) k ≡ false → {d : ℕ} → d ≡ length (decimal (P + n)) → 3 + d ≡ lost_line xs base P id
      unfolding lost_line lost field
      lost_line_is o g {d} ed =
          let a : d ≡ length (decimal (P + rank fs id)) = ed ∙ ap (λ m. length (decimal (P + m))) is_rank in
          omega (arith, a)
          ∙ sym (ap₂ (λ b c. cond (b && (c && not (eqb id (giver fs (id / 3))))) (2 + suc (length (decimal (P + rank fs id)))) 0) open_is (ap single (sym seen) ∙ o) ∙ ap (λ b. cond (not b) (2 + suc (length (decimal (P + rank fs id)))) 0) (sym (gives_is open_is) ∙ g))

-- what the test of three corners says of the face
pub tested : {f g : Face} {r b : Bool} → r ≡ (eqb f.a f.b && eqb f.b f.c) → f ≡ g → r ≡ b → single g ≡ b
unfolding single
tested e q t = ap single (sym q) ∙ sym e ∙ t

pub not_up : (b : Bool) → not b ≡ true → b ≡ false
not_up false e = refl
not_up true e = sym e

pub not_down : (b : Bool) → not b ≡ false → b ≡ true
not_down true e = refl
not_down false e = sym e
