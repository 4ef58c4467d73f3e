-- The parts of the nonzero counts, joined: one count more at the end, and none at all. Assumes nothing.
use mathlib.Core.Path.{◌≡◌, refl, sym, ap, ◌∙◌}
use mathlib.Core.Bool.{Bool, true, false, cond, ◌&&◌}
use mathlib.Core.List.{List, [], ◌∷◌, ◌++◌, map, zip, zip_with, map-append, append-nil, append_assoc}
use Prim.Native.Nat.{ℕ, zero, suc, ◌+◌, ◌≤◌, ◌<◌}
use Prim.Native.String.{String}
use native.Mathlib.Nat.{not-suc-le-zero}
use native.Mathlib.Decide.{ℕ_discrete}
use native.Mathlib.Numerals.{add-one}
use native.Mathlib.Omega.{arith}
use borrow.Author.Tests.{eq-eqb, ne_eqb, lt-ltb, le-ltb}
use lib.Dec.{eqb, ltb}
use lib.ListN.{length, get_or, take, length-append}
use lib.Seq.{take-suc, take_all}
use Rattle.rules.specs.Lists.{filter, all}
use Rattle.rules.specs.Line.{bytes, labels, joined, part, ten_line}
use Rattle.rule_laws.proofs.Lists.{filter_append}
use Rattle.line.specs.Put.{label_count, label, comma, more, shown, parts}

-- ---- joined parts

-- one part more goes behind a comma and a blank
joined_last : (p : List ℕ) (ps : List (List ℕ)) (q : List ℕ) → joined ((p ∷ ps) ++ (q ∷ [])) ≡ joined (p ∷ ps) ++ bytes ", " ++ q
unfolding joined
joined_last p [] q = refl
joined_last p (r ∷ ps) q = rw (joined_last r ps q) (simp append_assoc)

-- joined parts are as long as the first at least
joined_long : (p : List ℕ) (ps : List (List ℕ)) → length p ≤ length (joined (p ∷ ps))
unfolding joined
joined_long p [] = omega arith
joined_long p (q ∷ ps) = simp length-append (omega arith)

-- a part has its blank
part_long : (e : ℕ × String) → 0 < length (part e)
unfolding part bytes
part_long e = simp length-append (omega arith)

-- the bytes of the counts that are shown
abbrev pub text : List (ℕ × String) → List ℕ
text es = joined (map part es)

-- of one count and more they are not none
text_some : (e : ℕ × String) (es : List (ℕ × String)) → 0 < length (text (e ∷ es))
text_some e es = omega (arith, part_long e, joined_long (part e) (map part es))

-- one count more, behind a comma if it is not the first
text_last : (es : List (ℕ × String)) (e : ℕ × String) → text (es ++ (e ∷ [])) ≡ text es ++ comma (length (text es)) ++ part e
unfolding joined comma
text_last [] e = refl
text_last (d ∷ es) e =
    let h : length (text (d ∷ es)) ≡ 0 → ⊥ = λ q. absurd (omega (arith, text_some d es, q)) in
    ap joined (map-append part (d ∷ es) (e ∷ [])) ∙ joined_last (part d) (map part es) (part e) ∙ rw (ne_eqb (length (text (d ∷ es))) 0 h) refl

-- ---- counts with their labels

-- as many pairs as counts
zip_long : (xs : List ℕ) (ys : List String) → length xs ≡ length ys → length (zip xs ys) ≡ length xs
unfolding zip zip_with
zip_long [] ys h = refl
zip_long (x ∷ xs) [] h = absurd (omega arith)
zip_long (x ∷ xs) (y ∷ ys) h = ap suc (zip_long xs ys (omega arith))

-- and each of a count and its label
zip_at : (xs : List ℕ) (ys : List String) (k : ℕ) → k < length xs → length xs ≡ length ys → get_or (zip xs ys) k (0, "") ≡ (get_or xs k 0, get_or ys k "")
unfolding zip zip_with
zip_at [] ys k l h = absurd (not-suc-le-zero l)
zip_at (x ∷ xs) [] k l h = absurd (omega arith)
zip_at (x ∷ xs) (y ∷ ys) zero l h = refl
zip_at (x ∷ xs) (y ∷ ys) (suc k) l h = zip_at xs ys k (omega arith) (omega arith)

-- the line after k counts
abbrev pub so_far : List ℕ → ℕ → List ℕ
so_far counts k = text (shown (take k (zip counts labels)))

-- one count more: nothing if it is zero
shown_last : (es : List (ℕ × String)) (n k : ℕ) → text (shown (es ++ ((n, label k) ∷ []))) ≡ text (shown es) ++ more (length (text (shown es))) n k
unfolding shown more filter
shown_last es n k = ap text (filter_append (λ (e : ℕ × String). ltb 0 e.0) es ((n, label k) ∷ [])) ∙ go (ℕ_discrete n 0)
  where
    go : Dec (n ≡ 0) → text (shown es ++ cond (ltb 0 n) ((n, label k) ∷ []) []) ≡ text (shown es) ++ more (length (text (shown es))) n k
    go (yes z) = rw (le-ltb 0 n (omega arith), eq-eqb n 0 z, append-nil (shown es)) (sym (append-nil (text (shown es))))
    go (no z) = rw (lt-ltb 0 n (omega arith), ne_eqb n 0 z) (text_last (shown es) (n, label k) ∙ append_assoc (text (shown es)) (comma (length (text (shown es)))) (part (n, label k)))

module _ (counts : List ℕ) (whole : length counts ≡ label_count) where
  -- the next pair is that of count k
  pub so_far_next : (k : ℕ) → k < label_count → so_far counts (k + 1) ≡ so_far counts k ++ more (length (so_far counts k)) (get_or counts k 0) k
  unfolding labels
  so_far_next k h =
      let l = zip_long counts labels whole in
      let q : k < length (zip counts labels) = omega arith in
      let r : k < length counts = omega arith in
      rw (add-one, take-suc (zip counts labels) k (0, "") q, zip_at counts labels k r whole) (shown_last (take k (zip counts labels)) (get_or counts k 0) k)

  -- after all labels it is whole
  pub so_far_all : so_far counts label_count ≡ parts counts
  unfolding labels parts
  so_far_all = rw (take_all label_count (zip counts labels) (omega (arith, zip_long counts labels whole)))

-- ---- all zero

-- whether nothing is shown
nothing : List (ℕ × String) → Bool
nothing [] = true
nothing (e ∷ es) = false

-- that is so where all counts are zero
all_nothing : (xs : List ℕ) (ys : List String) → length xs ≡ length ys → all (eqb 0) xs ≡ nothing (shown (zip xs ys))
unfolding all shown filter zip zip_with nothing
all_nothing [] ys h = refl
all_nothing (x ∷ xs) [] h = absurd (omega arith)
all_nothing (x ∷ xs) (y ∷ ys) h = go (ℕ_discrete 0 x) (all_nothing xs ys (omega arith))
  where
    go : Dec (0 ≡ x) → all (eqb 0) xs ≡ nothing (shown (zip xs ys)) → (eqb 0 x && all (eqb 0) xs) ≡ nothing (cond (ltb 0 x) ((x, y) ∷ shown (zip xs ys)) (shown (zip xs ys)))
    go (yes z) r = rw (le-ltb 0 x (omega arith), eq-eqb 0 x z) r
    go (no z) r = rw (lt-ltb 0 x (omega arith), ne_eqb 0 x z)

-- the message where nothing changed
abbrev pub clean : List ℕ
clean = bytes "mesh was already manifold, nothing changed"

-- no bytes are of no count
no_bytes : (es : List (ℕ × String)) → length (text es) ≡ 0 → (nothing es ≡ true) × (text es ≡ [])
unfolding nothing joined
no_bytes [] h = (refl, refl)
no_bytes (e ∷ es) h = absurd (omega (arith, text_some e es))

-- some bytes are of some count
some_bytes : (es : List (ℕ × String)) → (length (text es) ≡ 0 → ⊥) → nothing es ≡ false
unfolding nothing joined
some_bytes [] h = absurd (h refl)
some_bytes (e ∷ es) h = refl

module _ (counts : List ℕ) (whole : length counts ≡ label_count) where
  -- the line of ten is the message where they give no bytes
  pub line_clean : length (parts counts) ≡ 0 → ten_line counts ≡ parts counts ++ clean
  unfolding ten_line parts labels
  line_clean h =
      let r = no_bytes (shown (zip counts labels)) h in
      rw (all_nothing counts labels whole, r.0, r.1)

  -- and else it is their bytes
  pub line_parts : (length (parts counts) ≡ 0 → ⊥) → ten_line counts ≡ parts counts
  unfolding ten_line parts labels shown
  line_parts h = rw (all_nothing counts labels whole, some_bytes (shown (zip counts labels)) h)
