-- The line of each kind, and that the lines of a row are those of its section. Assumes nothing.
use mathlib.Core.Path.{◌≡◌, refl, sym, ap, ◌∙◌}
use mathlib.Core.Bool.{Bool, true, false, ◌&&◌, cond}
use mathlib.Core.List.{List, [], ◌∷◌, ◌++◌, append_assoc, append-nil}
use Prim.Native.Nat.{ℕ, ◌+◌, ◌%◌, ◌≤◌, ◌<◌}
use native.Mathlib.Omega.{arith}
use native.Mathlib.Decide.{ℕ_discrete, dec_lt}
use borrow.Author.Tests.{eq-eqb, ne_eqb, le-leb, lt-leb}
use lib.Dec.{eqb, leb}
use lib.ListN.{length, get_or, set, length-append}
use Rattle.byte_rows.specs.Put.{Puts}
use Rattle.byte_rows.proofs.Putting.{puts_one, puts_both}
use Rattle.rules.specs.Lists.{below, each}
use Rattle.rules.specs.Line.{bytes, digits, decimal}
use Rattle.rules.specs.Text.{text_line}
use Rattle.rules.specs.Mending.{Reason, Line, dropped_face, exchange, isolated_point, for_repeated, for_thin, for_duplicate, for_edge, for_direction, pass_of, word_of, line_text}
use Rattle.rule_laws.proofs.Lists.{each_append, each_same}
use Rattle.mending_rows.specs.Told.{code, drop_told, drops_told, first_told, exchanges_told}
use Rattle.list_text.specs.declared.Kind.{Kind}
use Rattle.list_text.specs.declared.Kind.TheVariants as kind
use Rattle.list_text.specs.Written.{code_of, kind_of, letter_of, tail_with, tail_of, field, kind_text, row_text}

-- ---- one line

-- a line of three fields
three_line : (b : ℕ) (x y z : List ℕ) → text_line (b ∷ []) (x ∷ y ∷ z ∷ []) ≡ (b ∷ 9 ∷ x) ++ ((9 ∷ y) ++ ((9 ∷ z) ++ (10 ∷ [])))
unfolding text_line each
three_line b x y z =
    ap (λ (l : List ℕ). b ∷ l)
    (append_assoc (9 ∷ x) ((9 ∷ y) ++ ((9 ∷ z) ++ [])) (10 ∷ [])
    ∙ ap (λ (l : List ℕ). (9 ∷ x) ++ l) (append_assoc (9 ∷ y) ((9 ∷ z) ++ []) (10 ∷ []) ∙ ap (λ (l : List ℕ). (9 ∷ y) ++ (l ++ (10 ∷ []))) (append-nil (9 ∷ z))))

-- a line of one
one_line : (b : ℕ) (x : List ℕ) → text_line (b ∷ []) (x ∷ []) ≡ (b ∷ 9 ∷ x) ++ (10 ∷ [])
unfolding text_line each
one_line b x = ap (λ (l : List ℕ). b ∷ (l ++ (10 ∷ []))) (append-nil (9 ∷ x))

-- the line of a face that leaves is that of its reason's kind
drop_line : (why : Reason) (f : ℕ) → line_text (dropped_face f why) ≡ kind_text (code why) f
unfolding line_text bytes decimal digits
drop_line why f = go why
  where
    go : (why : Reason) → text_line (100 ∷ []) (decimal f ∷ decimal (pass_of why) ∷ bytes (word_of why) ∷ []) ≡ kind_text (code why) f
    go for_repeated = unfold pass_of word_of code in three_line 100 (decimal f) (49 ∷ []) (bytes "repeated")
    go for_thin = unfold pass_of word_of code in three_line 100 (decimal f) (49 ∷ []) (bytes "thin")
    go for_duplicate = unfold pass_of word_of code in three_line 100 (decimal f) (50 ∷ []) (bytes "duplicate")
    go for_edge = unfold pass_of word_of code in three_line 100 (decimal f) (51 ∷ []) (bytes "edge")
    go for_direction = unfold pass_of word_of code in three_line 100 (decimal f) (52 ∷ []) (bytes "direction")

exchange_line : (f : ℕ) → line_text (exchange f) ≡ kind_text 6 f
unfolding line_text bytes
exchange_line f = one_line 111 (decimal f)

isolated_line : (v : ℕ) → line_text (isolated_point v) ≡ kind_text 7 v
unfolding line_text bytes
isolated_line v = one_line 117 (decimal v)

-- ---- the lines of a row

-- lines of lines
each_each : {A B C : Type 0} (h : B → List C) (f : A → List B) (xs : List A) → each h (each f xs) ≡ each (λ x. each h (f x)) xs
unfolding each
each_each h f [] = refl
each_each h f (x ∷ xs) = each_append h (f x) (each f xs) ∙ ap (λ l. each h (f x) ++ l) (each_each h f xs)

-- one line or none
one_told : (b : Bool) (l : Line) → each line_text (cond b (l ∷ []) []) ≡ cond b (line_text l) []
unfolding each
one_told true l = append-nil (line_text l)
one_told false l = refl

-- a kind that one test picks
picked : (b : Bool) (k f : ℕ) → kind_text (cond b k 0) f ≡ cond b (kind_text k f) []
picked true k f = refl
picked false k f = refl

-- the kinds from k to k are k alone
only_one : (k r f : ℕ) → kind_text (cond (leb k r && leb r k) r 0) f ≡ cond (eqb r k) (kind_text k f) []
only_one k r f = go (ℕ_discrete r k)
  where
    go : Dec (r ≡ k) → kind_text (cond (leb k r && leb r k) r 0) f ≡ cond (eqb r k) (kind_text k f) []
    go (yes e) = rw (e, le-leb k k (omega arith), eq-eqb k k refl) refl
    go (no e) = rw (ne_eqb r k e) (less (dec_lt r k))
      where
        less : Dec (r < k) → kind_text (cond (leb k r && leb r k) r 0) f ≡ []
        less (yes l) = rw (lt-leb k r l) refl
        less (no l) = rw (lt-leb r k (omega arith)) (picked_none (leb k r))
          where
            picked_none : (b : Bool) → kind_text (cond (b && false) r 0) f ≡ []
            picked_none true = refl
            picked_none false = refl

-- those from 1 to 2 are 1 or 2
one_or_two : (r f : ℕ) → kind_text (cond (leb 1 r && leb r 2) r 0) f ≡ cond (eqb r 1) (kind_text 1 f) [] ++ cond (eqb r 2) (kind_text 2 f) []
one_or_two r f = go (ℕ_discrete r 1) (ℕ_discrete r 2) (ℕ_discrete r 0)
  where
    go : Dec (r ≡ 1) → Dec (r ≡ 2) → Dec (r ≡ 0) → kind_text (cond (leb 1 r && leb r 2) r 0) f ≡ cond (eqb r 1) (kind_text 1 f) [] ++ cond (eqb r 2) (kind_text 2 f) []
    go (yes e) y z = rw e (sym (append-nil (kind_text 1 f)))
    go (no x) (yes e) z = rw e refl
    go (no x) (no y) (yes e) = rw e refl
    go (no x) (no y) (no z) = rw (ne_eqb r 1 x, ne_eqb r 2 y, le-leb 1 r (omega arith), lt-leb r 2 (omega arith)) refl

module _ (w : List ℕ) (row : ℕ) where
  -- a reason's section
  pub drops_row : (why : Reason) (n : ℕ) → each line_text (drops_told (λ f. get_or w (row + f) 0) why n) ≡ row_text w row n (code why) (code why)
  unfolding drops_told
  drops_row why n = each_each line_text (drop_told (λ f. get_or w (row + f) 0) why) (below n) ∙ each_same _ _ (λ f. one f ∙ sym (same why f)) (below n)
    where
      one : (f : ℕ) → each line_text (drop_told (λ f. get_or w (row + f) 0) why f) ≡ cond (eqb (get_or w (row + f) 0 % 8) (code why)) (kind_text (code why) f) []
      one f = unfold drop_told in (one_told (eqb (get_or w (row + f) 0 % 8) (code why)) (dropped_face f why) ∙ ap (λ l. cond (eqb (get_or w (row + f) 0 % 8) (code why)) l []) (drop_line why f))

      same : (why : Reason) (f : ℕ) → kind_text (kind_of (get_or w (row + f) 0) (code why) (code why)) f ≡ cond (eqb (get_or w (row + f) 0 % 8) (code why)) (kind_text (code why) f) []
      same for_repeated f = unfold code in (only_one 1 (get_or w (row + f) 0 % 8) f)
      same for_thin f = unfold code in (only_one 2 (get_or w (row + f) 0 % 8) f)
      same for_duplicate f = unfold code in (only_one 3 (get_or w (row + f) 0 % 8) f)
      same for_edge f = unfold code in (only_one 4 (get_or w (row + f) 0 % 8) f)
      same for_direction f = unfold code in (only_one 5 (get_or w (row + f) 0 % 8) f)

  -- both reasons of pass 1
  pub first_row : (n : ℕ) → each line_text (first_told (λ f. get_or w (row + f) 0) n) ≡ row_text w row n 1 2
  unfolding first_told drop_told code
  first_row n = each_each line_text (λ f. drop_told (λ f. get_or w (row + f) 0) for_repeated f ++ drop_told (λ f. get_or w (row + f) 0) for_thin f) (below n) ∙ each_same _ _ one (below n)
    where
      one : (f : ℕ) → each line_text (drop_told (λ f. get_or w (row + f) 0) for_repeated f ++ drop_told (λ f. get_or w (row + f) 0) for_thin f) ≡ kind_text (kind_of (get_or w (row + f) 0) 1 2) f
      one f =
          let r = get_or w (row + f) 0 % 8 in
          each_append line_text (drop_told (λ f. get_or w (row + f) 0) for_repeated f) (drop_told (λ f. get_or w (row + f) 0) for_thin f)
          ∙ (λ i.
          (one_told (eqb r 1) (dropped_face f for_repeated) ∙ ap (λ l. cond (eqb r 1) l []) (drop_line for_repeated f)) i
          ++ (one_told (eqb r 2) (dropped_face f for_thin) ∙ ap (λ l. cond (eqb r 2) l []) (drop_line for_thin f)) i)
          ∙ sym (one_or_two r f)

  -- the exchanges
  pub exchanges_row : (n : ℕ) → each line_text (exchanges_told (λ f. get_or w (row + f) 0) n) ≡ row_text w row n 6 6
  unfolding exchanges_told
  exchanges_row n = each_each line_text (λ f. cond (leb 8 (get_or w (row + f) 0)) (exchange f ∷ []) []) (below n) ∙ each_same _ _ one (below n)
    where
      one : (f : ℕ) → each line_text (cond (leb 8 (get_or w (row + f) 0)) (exchange f ∷ []) []) ≡ kind_text (kind_of (get_or w (row + f) 0) 6 6) f
      one f =
          let b = leb 8 (get_or w (row + f) 0) in
          one_told b (exchange f) ∙ ap (λ l. cond b l []) (exchange_line f) ∙ sym (picked b 6 f)

  -- the unused points
  pub unused_row : (n : ℕ) → each line_text (each (λ v. cond (eqb (get_or w (row + v) 0) 1) (isolated_point v ∷ []) []) (below n)) ≡ row_text w row n 7 7
  unused_row n = each_each line_text (λ v. cond (eqb (get_or w (row + v) 0) 1) (isolated_point v ∷ []) []) (below n) ∙ each_same _ _ one (below n)
    where
      one : (v : ℕ) → each line_text (cond (eqb (get_or w (row + v) 0) 1) (isolated_point v ∷ []) []) ≡ kind_text (kind_of (get_or w (row + v) 0) 7 7) v
      one v =
          let b = eqb (get_or w (row + v) 0) 1 in
          one_told b (isolated_point v) ∙ ap (λ l. cond b l []) (isolated_line v) ∙ sym (picked b 7 v)

-- ---- how long a line is

-- what follows the number is at most 13 bytes
pub tail_most : (k : ℕ) → length (tail_of k) ≤ 13
unfolding bytes
tail_most k = go (eqb k 1) (eqb k 2) (eqb k 3) (eqb k 4) (eqb k 5)
  where
    go : (a b c d e : Bool) → length (cond a (tail_with 1 "repeated") (cond b (tail_with 1 "thin") (cond c (tail_with 2 "duplicate") (cond d (tail_with 3 "edge") (cond e (tail_with 4 "direction") (10 ∷ [])))))) ≤ 13
    go true b c d e = omega arith
    go false true c d e = omega arith
    go false false true d e = omega arith
    go false false false true e = omega arith
    go false false false false true = omega arith
    go false false false false false = omega arith

-- a line that is one
pub line_text_is : (k n : ℕ) → (k ≡ 0 → ⊥) → kind_text k n ≡ letter_of k ∷ (field n ++ tail_of k)
line_text_is k n h = rw (ne_eqb k 0 h) refl

-- none
pub no_line : (k n : ℕ) → k ≡ 0 → kind_text k n ≡ []
no_line k n h = rw h refl

-- a line's parts
pub line_parts : (k n : ℕ) → (k ≡ 0 → ⊥) → length (kind_text k n) ≡ 2 + length (decimal n) + length (tail_of k)
line_parts k n h = ap length (line_text_is k n h) ∙ omega (arith, length-append (field n) (tail_of k))

-- a kind of line is some line
pub code_some : (k : Kind) → code_of k ≡ 0 → ⊥
code_some kind.Repeated e = absurd (omega arith)
code_some kind.Thin e = absurd (omega arith)
code_some kind.Duplicate e = absurd (omega arith)
code_some kind.Edge e = absurd (omega arith)
code_some kind.Direction e = absurd (omega arith)
code_some kind.Exchange e = absurd (omega arith)
code_some kind.Isolated e = absurd (omega arith)

-- ---- a line is put

module _ (k n : ℕ) (h : k ≡ 0 → ⊥) where
  -- letter, number and tail
  pub line_put : {at l mid end : ℕ} {w w' w'' : List ℕ} → at < length w → l ≡ letter_of k → Puts (set w at l) (at + 1) (field n) w' mid → Puts w' mid (tail_of k) w'' end → Puts w at (kind_text k n) w'' end
  line_put {at} {l} {w = w} r e p q = rw (line_text_is k n h, ← e) (puts_both (puts_one w at l r) (puts_both p q))
