-- The line of one face, by the tests of its word, its shape or its corners. Assumes nothing.
use mathlib.Core.Path.{◌≡◌, ap, ◌∙◌}
use mathlib.Core.Bool.{Bool, true, false}
use mathlib.Core.List.{List}
use Prim.Native.Nat.{ℕ, ◌+◌, ◌*◌, ◌/◌, ◌%◌}
use native.Mathlib.Omega.{arith}
use borrow.Author.Tests.{eq-eqb, ne_eqb}
use lib.ListN.{length, get_or}
use lib.Ieee.{Float}
use Rattle.rules.specs.Float.{Shape, good, repeated, thin, repeats, shape}
use Rattle.rules.specs.Mesh.{points_of}
use Rattle.rules.specs.Line.{decimal}
use Rattle.face_words.specs.Words.{stands, straight, view}
use Rattle.face_words.specs.Views.{seen_as}
use Rattle.face_words.specs.declared.Corners.{Corners}
use Rattle.searched_lines.specs.Lines.{drop_line, shape_line, degenerate_line, marked_line, shows, exchange_line}

-- ---- pass 1

module _ (s : Float) (ps : List Float) (xs w : List ℕ) (f : ℕ) {r : Bool} (e : r ≡ stands w f) where
  pub gone_none : r ≡ false → 0 ≡ degenerate_line s ps xs w f
  unfolding degenerate_line
  gone_none n = rw (← e, n)

  module _ (k : r ≡ true) {g : Corners} (v : seen_as g f ≡ view xs w f) where
    by_form : {form : Shape} → form ≡ shape s (points_of ps) (seen_as g 0) → shape_line form f ≡ degenerate_line s ps xs w f
    unfolding degenerate_line shape repeats
    by_form ef = ap (λ x. shape_line x f) (ef ∙ ap (shape s (points_of ps)) v) ∙ rw (← e, k)

    pub good_none : good ≡ shape s (points_of ps) (seen_as g 0) → 0 ≡ degenerate_line s ps xs w f
    unfolding shape_line
    good_none ef = by_form ef

    module _ {d : ℕ} (ed : d ≡ length (decimal f)) where
      pub repeated_line : repeated ≡ shape s (points_of ps) (seen_as g 0) → 14 + d ≡ degenerate_line s ps xs w f
      unfolding shape_line drop_line
      repeated_line ef = let t : 14 + d ≡ shape_line repeated f = omega (arith, ed) in t ∙ by_form ef

      pub thin_line : thin ≡ shape s (points_of ps) (seen_as g 0) → 10 + d ≡ degenerate_line s ps xs w f
      unfolding shape_line drop_line
      thin_line ef = let t : 10 + d ≡ shape_line thin f = omega (arith, ed) in t ∙ by_form ef

-- ---- a marked face

module _ (n : ℕ) (w : List ℕ) (f : ℕ) where
  pub marked_line_is : get_or w f 0 / 4 % 2 ≡ 1 → {d : ℕ} → d ≡ length (decimal f) → 6 + n + d ≡ marked_line n w f
  unfolding marked_line drop_line
  marked_line_is e {d} ed = rw (eq-eqb (get_or w f 0 / 4 % 2) 1 e) (omega (arith, ed))

  pub unmarked_none : (get_or w f 0 / 4 % 2 ≡ 1 → ⊥) → 0 ≡ marked_line n w f
  unfolding marked_line
  unmarked_none k = rw (ne_eqb (get_or w f 0 / 4 % 2) 1 k)

-- ---- an exchanged face

module _ (xs w : List ℕ) (f : ℕ) {r : Bool} (e : r ≡ stands w f) where
  pub gone_unturned : r ≡ false → 0 ≡ exchange_line xs w f
  unfolding exchange_line shows
  gone_unturned n = rw (← e, n)

  module _ (k : r ≡ true) where
    pub straight_none : get_or w f 0 / 2 % 2 ≡ 0 → 0 ≡ exchange_line xs w f
    unfolding exchange_line shows straight
    straight_none z = rw (← e, k, eq-eqb (get_or w f 0 / 2 % 2) 0 z)

    module _ (n : get_or w f 0 / 2 % 2 ≡ 0 → ⊥) where
      pub equal_none : get_or xs (3 * f + 1) 0 ≡ get_or xs (3 * f + 2) 0 → 0 ≡ exchange_line xs w f
      unfolding exchange_line shows straight
      equal_none z = rw (← e, k, ne_eqb (get_or w f 0 / 2 % 2) 0 n, eq-eqb (get_or xs (3 * f + 1) 0) (get_or xs (3 * f + 2) 0) z)

      pub turned_line : (get_or xs (3 * f + 1) 0 ≡ get_or xs (3 * f + 2) 0 → ⊥) → {d : ℕ} → d ≡ length (decimal f) → 3 + d ≡ exchange_line xs w f
      unfolding exchange_line shows straight
      turned_line z {d} ed = rw (← e, k, ne_eqb (get_or w f 0 / 2 % 2) 0 n, ne_eqb (get_or xs (3 * f + 1) 0) (get_or xs (3 * f + 2) 0) z) (omega (arith, ed))
