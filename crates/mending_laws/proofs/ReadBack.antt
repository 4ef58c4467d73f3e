-- The text of lines is read as these lines. Assumes nothing.
use mathlib.Core.Path.{◌≡◌, refl, ap, ◌∙◌}
use mathlib.Core.Bool.{Bool, true, false, cond}
use mathlib.Core.Option.{none, some}
use mathlib.Core.List.{List, [], ◌∷◌, ◌++◌, map, append_assoc}
use Prim.Native.Nat.{ℕ, ◌≤◌, ◌<◌}
use native.Mathlib.Omega.{arith}
use lib.Dec.{T, eqb, ltb, ltb→lt}
use Rattle.rules.specs.Lists.{each, all, through}
use Rattle.rules.specs.Line.{bytes, digits, decimal}
use Rattle.rules.specs.Text.{text_line, equal, of_decimal, whole, parted}
use Rattle.rules.specs.Mending.{Reason, for_repeated, for_thin, for_duplicate, for_edge, for_direction, pass_of, word_of, Line, dropped_face, exchange, split_point, isolated_point, line_text}
use Rattle.rules.specs.Applying.{reason_read, all_reasons, drop_read, d_read, one_read, rising, s_read, and_then, fields_read, pieces_read, lines_read}
use Rattle.rule_laws.proofs.Rising.{All, all_imp, all_append}
use Rattle.rule_laws.proofs.Members.{all_elim}
use Rattle.mending_laws.proofs.Decimals.{Plain, decimal_plain, whole_decimal, wholes_decimal}
use Rattle.mending_laws.proofs.Parting.{Free, plain_free, parted_cut, fields_parted, parted_some, pieces_more}

-- a line that has a text: its numbers have 32 bits, and the faces of a split rise
abbrev pub Sound : Line → Type 0
Sound (dropped_face f why) = f ≤ 4294967295
Sound (exchange f) = f ≤ 4294967295
Sound (split_point old new fs) = (old ≤ 4294967295) × (new ≤ 4294967295) × All (λ f. f ≤ 4294967295) fs × (rising fs ≡ true)
Sound (isolated_point v) = v ≤ 4294967295

-- its letter
abbrev pub letter : Line → List ℕ
letter (dropped_face f why) = bytes "d"
letter (exchange f) = bytes "o"
letter (split_point old new fs) = bytes "s"
letter (isolated_point v) = bytes "u"

-- its fields
abbrev pub fields : Line → List (List ℕ)
fields (dropped_face f why) = decimal f ∷ decimal (pass_of why) ∷ bytes (word_of why) ∷ []
fields (exchange f) = decimal f ∷ []
fields (split_point old new fs) = decimal old ∷ decimal new ∷ map decimal fs
fields (isolated_point v) = decimal v ∷ []

-- the line before its newline
abbrev pub body : Line → List ℕ
body l = letter l ++ each (λ f. 9 ∷ f) (fields l)

-- and a newline ends it
pub text_body : (l : Line) → line_text l ≡ body l ++ (10 ∷ [])
unfolding line_text text_line
text_body (dropped_face f why) = refl
text_body (exchange f) = refl
text_body (split_point old new fs) = refl
text_body (isolated_point v) = refl

-- ---- nothing in a field is a tab or a newline

-- by looking
plain_from : (bs : List ℕ) → T (all (ltb 10) bs) → Plain bs
plain_from bs t = all_imp (λ b. T (ltb 10 b)) (λ b. 10 < b) (λ b h. ltb→lt 10 b h) bs (all_elim (ltb 10) bs t)

-- the words
word_plain : (why : Reason) → Plain (bytes (word_of why))
unfolding word_of bytes all
word_plain for_repeated = plain_from (bytes "repeated") tt
word_plain for_thin = plain_from (bytes "thin") tt
word_plain for_duplicate = plain_from (bytes "duplicate") tt
word_plain for_edge = plain_from (bytes "edge") tt
word_plain for_direction = plain_from (bytes "direction") tt

-- the letters
letter_plain : (l : Line) → Plain (letter l)
unfolding bytes all
letter_plain (dropped_face f why) = plain_from (bytes "d") tt
letter_plain (exchange f) = plain_from (bytes "o") tt
letter_plain (split_point old new fs) = plain_from (bytes "s") tt
letter_plain (isolated_point v) = plain_from (bytes "u") tt

-- the numbers
decimals_plain : (ns : List ℕ) → All Plain (map decimal ns)
decimals_plain [] = tt
decimals_plain (n ∷ ns) = (decimal_plain n, decimals_plain ns)

-- all fields
fields_plain : (l : Line) → All Plain (fields l)
fields_plain (dropped_face f why) = (decimal_plain f, (decimal_plain (pass_of why), (word_plain why, tt)))
fields_plain (exchange f) = (decimal_plain f, tt)
fields_plain (split_point old new fs) = (decimal_plain old, (decimal_plain new, decimals_plain fs))
fields_plain (isolated_point v) = (decimal_plain v, tt)

-- ---- the fields are the line's

-- the pass and the word are the reason's
reason_back : (why : Reason) → reason_read (decimal (pass_of why)) (bytes (word_of why)) all_reasons ≡ some why
unfolding reason_read pass_of word_of bytes decimal digits whole of_decimal through equal
reason_back for_repeated = refl
reason_back for_thin = refl
reason_back for_duplicate = refl
reason_back for_edge = refl
reason_back for_direction = refl

-- the line that the fields make
pub fields_back : (l : Line) → Sound l → fields_read (letter l ∷ fields l) ≡ some l
unfolding fields_read d_read bytes equal
fields_back (dropped_face f why) h = (λ i. drop_read (whole_decimal f h i) (reason_back why i)) ∙ (unfold drop_read in refl)
fields_back (exchange f) h = ap (and_then (one_read exchange)) (wholes_decimal (f ∷ []) (h, tt)) ∙ (unfold and_then one_read in refl)
fields_back (split_point old new fs) h =
    ap (and_then s_read) (wholes_decimal (old ∷ new ∷ fs) (h.0, (h.1, h.2)))
    ∙ (unfold and_then s_read in (ap (λ (b : Bool). cond b (some (split_point old new fs)) none) h.3))
fields_back (isolated_point v) h = ap (and_then (one_read isolated_point)) (wholes_decimal (v ∷ []) (h, tt)) ∙ (unfold and_then one_read in refl)

-- ---- the text

-- fields after tabs have no newline
joined_free : (fs : List (List ℕ)) → All Plain fs → Free 10 (each (λ f. 9 ∷ f) fs)
unfolding each
joined_free [] h = tt
joined_free (f ∷ fs) h = (refl, all_append (λ b. eqb b 10 ≡ false) f (each (λ g. 9 ∷ g) fs) (plain_free 10 (omega arith) f h.0) (joined_free fs h.1))

-- so a line has none inside
body_free : (l : Line) → Free 10 (body l)
body_free l =
    all_append (λ b. eqb b 10 ≡ false) (letter l) (each (λ f. 9 ∷ f) (fields l)) (plain_free 10 (omega arith) (letter l) (letter_plain l)) (joined_free (fields l) (fields_plain l))

-- the text of a line and more
line_before : (l : Line) (rest : List ℕ) → Sound l → lines_read (line_text l ++ rest) ≡ some l ∷ lines_read rest
unfolding lines_read
line_before l rest h =
    ap (λ t. pieces_read (parted 10 t)) (ap (λ t. t ++ rest) (text_body l) ∙ append_assoc (body l) (10 ∷ []) rest)
    ∙ ap pieces_read (parted_cut 10 (body l) rest (body_free l))
    ∙ pieces_more (body l) (parted 10 rest) (parted_some 10 rest)
    ∙ ap (λ o. o ∷ pieces_read (parted 10 rest)) (ap fields_read (fields_parted (letter l) (fields l) (letter_plain l) (fields_plain l)) ∙ fields_back l h)

-- the text of lines is read as these lines
pub read_back : (ls : List Line) → All Sound ls → lines_read (each line_text ls) ≡ map some ls
unfolding each
read_back [] h = unfold lines_read parted pieces_read in refl
read_back (l ∷ ls) h = line_before l (each line_text ls) h.0 ∙ ap (λ r. some l ∷ r) (read_back ls h.1)
