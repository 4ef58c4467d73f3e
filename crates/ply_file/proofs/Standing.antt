-- A text that stands in a file or does not, and the count in a line. Assumes nothing.
use Rattle.std.specs.List.{starts_with}
use Rattle.std.specs.Cmp.Lexicographic.{pointwise, same_text, other_text}
use mathlib.Core.Path.{◌≡◌, refl, sym, ap, ◌∙◌}
use mathlib.Core.Bool.{Bool, true, false}
use mathlib.Core.Logic.{⊎_elim}
use mathlib.Core.List.{List, []}
use Prim.Native.Nat.{ℕ, ◌-◌, ◌<◌}
use native.Mathlib.Nat.{eq-or-lt_of_le}
use native.Mathlib.Omega.{arith}
use lib.Dec.{eqb}
use lib.ListN.{length, get_or, take, drop, length-drop}
use lib.Seq.{take_all}
use Rattle.rows.specs.Region.{part}
use Rattle.rows.proofs.Regions.{length_part}
use Rattle.rules.specs.Line.{plain}
use Rattle.rules.specs.Text.{equal}
use Rattle.rules.specs.Ply.{line_end}
use Rattle.rule_laws.proofs.Texts.{equal_self, equal_not}
use Rattle.text_fields.specs.Fields.{Piece, PlainIs, PlainNone}
use Rattle.ply_file.specs.Files.{LineIs, LineNone}

-- ---- a text

-- what stands in a file at a place, as a slice of it
rest_of : (at : ℕ) (file : List ℕ) → take (length file - at) (drop at file) ≡ drop at file
rest_of at file = take_all (length file - at) (drop at file) (omega (arith, length-drop at file))

-- it begins with the text, as the rules compare the two
pub stands_is : (file : List ℕ) (at : ℕ) (text : List ℕ) → starts_with eqb (take (length file - at) (drop at file)) text ≡ equal (part file at (length text)) text
stands_is file at text = ap (λ l. pointwise eqb text (take (length text) l)) (rest_of at file) ∙ go (part file at (length text)) (pointwise eqb text (part file at (length text))) refl
  where
    go : (here : List ℕ) (t : Bool) → pointwise eqb text here ≡ t → pointwise eqb text here ≡ equal here text
    go here true e = e ∙ sym (ap (λ l. equal l text) (sym (same_text text here (sym e))) ∙ equal_self text)
    go here false e = e ∙ sym (equal_not here text (λ q. other_text text here (sym e) (sym q)))

-- ---- a line

-- the piece up to the newline, or to the end of the file, is the line
line_of : {file : List ℕ} {from end : ℕ} → Piece file from 10 end → line_end (drop from file) ≡ part file from (end - from)
unfolding line_end
line_of {file} {from} {end} v =
    ⊎_elim (λ (e : end ≡ length file). ap (λ (ps : List (List ℕ)). get_or ps 0 []) (v.last e)) (λ (l : end < length file). ap (λ (ps : List (List ℕ)). get_or ps 0 []) (v.more l))
    (eq-or-lt_of_le v.ends)

module _ {file : List ℕ} {from end : ℕ} (v : Piece file from 10 end) where
  -- it is what is written for a number, and ends behind it
  pub line_is : {n : ℕ} → PlainIs (part file from (end - from)) n → LineIs file from n end
  line_is {n} k =
      let b = v.begins in
      let e = v.ends in
      let l : length (plain n) ≡ end - from = ap length (sym k.form) ∙ length_part file from (end - from) (omega arith) in
      record {
        few = k.few;
        line = line_of v ∙ k.form;
        field = ap (part file from) l ∙ k.form;
        ends = omega arith;
        inside = e;
      }

  -- it is what is written for none
  pub line_none : PlainNone (part file from (end - from)) → LineNone file from
  line_none k = record { none = λ n l f. k.none n l (sym (line_of v) ∙ f) }
