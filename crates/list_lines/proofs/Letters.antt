-- A line by its letter, and the lines of a text one after the other. Assumes nothing.
use mathlib.Core.Path.{◌≡◌, refl, sym, ap, ◌∙◌}
use mathlib.Core.Bool.{Bool, true, false, cond}
use mathlib.Core.Option.{Option, none, some}
use mathlib.Core.List.{List, [], ◌∷◌}
use Prim.Native.Nat.{ℕ, ◌+◌, ◌-◌, ◌≤◌, ◌<◌}
use native.Mathlib.Decide.{ℕ_discrete}
use native.Mathlib.Omega.{arith}
use borrow.Author.Tests.{ne_eqb}
use lib.Dec.{eqb}
use lib.ListN.{length, get_or, drop}
use lib.Seq.{drop-length}
use Rattle.std.specs.Prelude as std
use Rattle.rows.specs.Region.{part}
use Rattle.rules.specs.Line.{bytes}
use Rattle.rules.specs.Text.{onto, parted, equal}
use Rattle.rules.specs.Mending as list
use Rattle.rules.specs.Applying.{fields_read, pieces_read, lines_read, d_read, and_then, wholes, one_read, s_read}
use Rattle.rule_laws.proofs.Texts.{equal_not}
use Rattle.text_fields.specs.Fields.{Piece}
use Rattle.mending_laws.proofs.Parting.{parted_some, pieces_more}
use Rattle.list_lines.specs.declared.Line.{Line}
use Rattle.list_lines.specs.declared.Line.TheVariants as line
use Rattle.list_lines.specs.Lines.{tabbed, fields_in, line_told, dropped_told, exchange_told, split_told, isolated_told, LetterAsks, Tells, Says, SaysNothing, Reads}
use Rattle.list_lines.proofs.Fields.{part_cons, part_long}

-- ---- by the first field

-- a first field that is no letter
fields_long : (k : List ℕ) (fs : List (List ℕ)) → (length k ≡ 1 → ⊥) → fields_read (k ∷ fs) ≡ none
unfolding fields_read equal bytes d_read and_then
fields_long k fs h = rw (other 100, other 111, other 115, other 117) refl
  where
    other : (b : ℕ) → equal k (b ∷ []) ≡ false
    other b = equal_not k (b ∷ []) (λ e. h (ap length e))

-- another letter
fields_other : (b : ℕ) (fs : List (List ℕ)) → (b ≡ 100 → ⊥) → (b ≡ 111 → ⊥) → (b ≡ 115 → ⊥) → (b ≡ 117 → ⊥) → fields_read ((b ∷ []) ∷ fs) ≡ none
unfolding fields_read equal bytes
fields_other b fs d o s u = rw (other 100 d, other 111 o, other 115 s, other 117 u) refl
  where
    first : (x y : ℕ) → x ∷ [] ≡ y ∷ [] → x ≡ y
    first x y e = ap (λ (l : List ℕ). get_or l 0 0) e

    other : (x : ℕ) → (b ≡ x → ⊥) → equal (b ∷ []) (x ∷ []) ≡ false
    other x n = equal_not (b ∷ []) (x ∷ []) (λ e. n (first b x e))

-- the four letters
fields_d : (fs : List (List ℕ)) → fields_read ((100 ∷ []) ∷ fs) ≡ dropped_told fs
unfolding fields_read equal bytes
fields_d fs = refl

fields_o : (fs : List (List ℕ)) → fields_read ((111 ∷ []) ∷ fs) ≡ exchange_told fs
unfolding fields_read equal bytes
fields_o fs = refl

fields_s : (fs : List (List ℕ)) → fields_read ((115 ∷ []) ∷ fs) ≡ split_told fs
unfolding fields_read equal bytes
fields_s fs = refl

fields_u : (fs : List (List ℕ)) → fields_read ((117 ∷ []) ∷ fs) ≡ isolated_told fs
unfolding fields_read equal bytes
fields_u fs = refl

-- a letter alone
fields_alone : (k : List ℕ) → fields_read (k ∷ []) ≡ none
unfolding fields_read d_read and_then wholes one_read s_read
fields_alone k = go (equal k (bytes "d")) (equal k (bytes "o")) (equal k (bytes "s")) (equal k (bytes "u"))
  where
    go : (d o s u : Bool) → ◌≡◌ {A = Option list.Line} (cond d none (cond o none (cond s none (cond u none none)))) none
    go true o s u = refl
    go false true s u = refl
    go false false true u = refl
    go false false false true = refl
    go false false false false = refl

-- ---- by the first bytes

-- a line of no byte
none_line : fields_read (parted 9 []) ≡ none
unfolding parted
none_line = fields_alone []

-- a line of one
one_line : (b : ℕ) → fields_read (parted 9 (b ∷ [])) ≡ none
unfolding parted onto
one_line b = go (eqb b 9)
  where
    go : (t : Bool) → fields_read (cond t ([] ∷ [] ∷ []) ((b ∷ []) ∷ [])) ≡ none
    go true = fields_long [] ([] ∷ []) (λ z. absurd (omega arith))
    go false = fields_alone (b ∷ [])

-- no tab behind the first byte
no_tab : (b c : ℕ) (r : List ℕ) → (c ≡ 9 → ⊥) → fields_read (parted 9 (b ∷ c ∷ r)) ≡ none
unfolding parted onto
no_tab b c r n = go (eqb b 9) (parted 9 r)
  where
    tabless : eqb c 9 ≡ false
    tabless = ne_eqb c 9 n

    go : (t : Bool) (ps : List (List ℕ)) → fields_read (cond t ([] ∷ cond (eqb c 9) ([] ∷ ps) (onto c ps)) (onto b (cond (eqb c 9) ([] ∷ ps) (onto c ps)))) ≡ none
    go true ps = fields_long [] (cond (eqb c 9) ([] ∷ ps) (onto c ps)) (λ z. absurd (omega arith))
    go false [] = rw tabless (fields_long (b ∷ c ∷ []) [] (λ z. absurd (omega arith)))
    go false (p ∷ ps) = rw tabless (fields_long (b ∷ c ∷ p) ps (λ z. absurd (omega arith)))

-- a tab behind a byte that is none
tab_next : (b : ℕ) (r : List ℕ) → (b ≡ 9 → ⊥) → parted 9 (b ∷ 9 ∷ r) ≡ (b ∷ []) ∷ tabbed (9 ∷ r)
unfolding parted onto tabbed
tab_next b r n = rw (ne_eqb b 9 n) refl

-- a tab first
tab_first : (r : List ℕ) → fields_read (parted 9 (9 ∷ r)) ≡ none
unfolding parted
tab_first r = fields_long [] (parted 9 r) (λ z. absurd (omega arith))

module _ (text : List ℕ) (at end : ℕ) (a : LetterAsks text at end) where
  -- too short
  pub letter_short : end - at < 2 → line_told text at end ≡ none
  letter_short h = go (part text at (end - at)) (part_long text at end a.begins a.ends)
    where
      go : (xs : List ℕ) → length xs ≡ end - at → fields_read (parted 9 xs) ≡ none
      go [] e = none_line
      go (x ∷ []) e = one_line x
      go (x ∷ y ∷ r) e = absurd (omega arith)

  module _ (h : 2 ≤ end - at) where
    -- its first two bytes
    two : part text at (end - at) ≡ get_or text at 0 ∷ get_or text (at + 1) 0 ∷ part text (at + 1 + 1) (end - (at + 1 + 1))
    two =
        part_cons text at end (omega arith) a.ends
        ∙ ap (λ (z : List ℕ). get_or text at 0 ∷ z) (part_cons text (at + 1) end (omega arith) a.ends)

    -- no tab behind the letter
    pub letter_long : (get_or text (at + 1) 0 ≡ 9 → ⊥) → line_told text at end ≡ none
    letter_long n = ap (λ (z : List ℕ). fields_read (parted 9 z)) two ∙ no_tab (get_or text at 0) (get_or text (at + 1) 0) (part text (at + 1 + 1) (end - (at + 1 + 1))) n

    module _ (t : get_or text (at + 1) 0 ≡ 9) where
      -- the fields behind the tab
      behind : part text (at + 1) (end - (at + 1)) ≡ 9 ∷ part text (at + 1 + 1) (end - (at + 1 + 1))
      behind = part_cons text (at + 1) end (omega arith) a.ends ∙ ap (λ (z : ℕ). z ∷ part text (at + 1 + 1) (end - (at + 1 + 1))) t

      -- letter and fields
      letter : (b : ℕ) → get_or text at 0 ≡ b → (b ≡ 9 → ⊥) → line_told text at end ≡ fields_read ((b ∷ []) ∷ fields_in text (at + 1) end)
      letter b e n =
          ap (λ (z : List ℕ). fields_read (parted 9 z)) (part_cons text at end (omega arith) a.ends ∙ rw (e, behind) refl)
          ∙ ap fields_read (tab_next b (part text (at + 1 + 1) (end - (at + 1 + 1))) n ∙ ap (λ (z : List ℕ). (b ∷ []) ∷ tabbed z) (sym behind))

      -- the four letters
      pub letter_d : get_or text at 0 ≡ 100 → line_told text at end ≡ dropped_told (fields_in text (at + 1) end)
      letter_d e = letter 100 e (λ z. absurd (omega arith)) ∙ fields_d (fields_in text (at + 1) end)

      pub letter_o : get_or text at 0 ≡ 111 → line_told text at end ≡ exchange_told (fields_in text (at + 1) end)
      letter_o e = letter 111 e (λ z. absurd (omega arith)) ∙ fields_o (fields_in text (at + 1) end)

      pub letter_s : get_or text at 0 ≡ 115 → line_told text at end ≡ split_told (fields_in text (at + 1) end)
      letter_s e = letter 115 e (λ z. absurd (omega arith)) ∙ fields_s (fields_in text (at + 1) end)

      pub letter_u : get_or text at 0 ≡ 117 → line_told text at end ≡ isolated_told (fields_in text (at + 1) end)
      letter_u e = letter 117 e (λ z. absurd (omega arith)) ∙ fields_u (fields_in text (at + 1) end)

      -- no other
      pub letter_other : (get_or text at 0 ≡ 100 → ⊥) → (get_or text at 0 ≡ 111 → ⊥) → (get_or text at 0 ≡ 115 → ⊥) → (get_or text at 0 ≡ 117 → ⊥) → line_told text at end ≡ none
      letter_other d o s u = go (ℕ_discrete (get_or text at 0) 9)
        where
          go : Dec (get_or text at 0 ≡ 9) → line_told text at end ≡ none
          go (yes e) =
              ap (λ (z : List ℕ). fields_read (parted 9 z)) (part_cons text at end (omega arith) a.ends ∙ rw e refl)
              ∙ tab_first (part text (at + 1) (end - (at + 1)))
          go (no n) = letter (get_or text at 0) refl n ∙ fields_other (get_or text at 0) (fields_in text (at + 1) end) d o s u

-- ---- the lines of a text

-- after the last newline there is no line
pub lines_end : (text : List ℕ) (at : ℕ) → at ≡ length text → lines_read (drop at text) ≡ []
unfolding lines_read pieces_read parted
lines_end text at e = rw e (ap (λ (z : List ℕ). pieces_read (parted 10 z)) (drop-length text))

module _ {text : List ℕ} {at end : ℕ} (h : at < length text) (p : Piece text at 10 end) where
  -- a line that no newline ends
  pub unended : end ≡ length text → SaysNothing text at
  unfolding lines_read
  unended e =
      let q : part text at (end - at) ≡ get_or text at 0 ∷ part text (at + 1) (end - (at + 1)) = part_cons text at end (omega arith) p.ends in
      record { others = []; lines = ap pieces_read (p.last e ∙ ap (λ (z : List ℕ). z ∷ []) q) ∙ last (get_or text at 0) (part text (at + 1) (end - (at + 1))) }
    where
      last : (b : ℕ) (bs : List ℕ) → pieces_read ((b ∷ bs) ∷ []) ≡ none ∷ []
      last b bs = unfold pieces_read in refl

  -- one that a newline ends
  ended : end < length text → lines_read (drop at text) ≡ line_told text at end ∷ lines_read (drop (end + 1) text)
  unfolding lines_read
  ended l = ap pieces_read (p.more l) ∙ pieces_more (part text at (end - at)) (parted 10 (drop (end + 1) text)) (parted_some 10 (drop (end + 1) text))

  -- what it tells is what is read
  pub line_read : (end ≡ length text → ⊥) → (r : std.Option Line) → Tells (line_told text at end) text end r → Reads text at r
  line_read n r t = go r t
    where
      short : end < length text
      short = omega (arith, p.ends)

      says : (l : list.Line) (e : ℕ) → e ≡ end → line_told text at end ≡ some l → Says text at l e
      says l e q i =
          rw q (record { begins = p.begins; ends = short; lines = ended short ∙ ap (λ (o : Option list.Line). o ∷ lines_read (drop (end + 1) text)) i })

      go : (s : std.Option Line) → Tells (line_told text at end) text end s → Reads text at s
      go (std.Some (line.Dropped f w e)) i = says _ e i.ends i.is
      go (std.Some (line.Exchange f e)) i = says _ e i.ends i.is
      go (std.Some (line.Split old new from e)) i =
          let q = i.ends in
          rw q (record { says = says _ end refl i.is; faces = i.faces; rise = i.rise })
      go (std.Some (line.Isolated v e)) i = says _ e i.ends i.is
      go std.None i = record { others = lines_read (drop (end + 1) text); lines = ended short ∙ ap (λ (o : Option list.Line). o ∷ lines_read (drop (end + 1) text)) i }
