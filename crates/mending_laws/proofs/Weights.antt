-- Lines whose faces are below F and whose points are below N, and the most bytes that they may need: 22 for a face that leaves, 10 for an exchange and
-- for an unused point, 18 for a split and 8 for each face that it names. Assumes nothing.
use mathlib.Core.Path.{◌≡◌, refl, sym, ap, ◌∙◌}
use mathlib.Core.Bool.{Bool, true, false, cond}
use mathlib.Core.List.{List, [], ◌∷◌, ◌++◌, map}
use Prim.Native.Nat.{ℕ, zero, suc, ◌+◌, ◌*◌, ◌≤◌, ◌<◌}
use native.Mathlib.Omega.{arith}
use lib.ListN.{length, length-append}
use Rattle.rules.specs.Lists.{below, filter, count, each}
use Rattle.rules.specs.Line.{bytes, digits, decimal}
use Rattle.rules.specs.Mending.{Reason, for_repeated, for_thin, for_duplicate, for_edge, for_direction, pass_of, word_of, Line, dropped_face, exchange, split_point, isolated_point, line_text}
use Rattle.rules.specs.Applying.{rising}
use Rattle.rule_laws.proofs.Lists.{each_append, count_below}
use Rattle.rule_laws.proofs.Rising.{All, all_imp, all_each, below_all}
use Rattle.mending_laws.proofs.Decimals.{decimal_seven}
use Rattle.mending_laws.proofs.ReadBack.{Sound, body, text_body}

-- faces below F, points below N; the faces of a split rise
abbrev pub Within : ℕ → ℕ → Line → Type 0
Within F N (dropped_face f why) = f < F
Within F N (exchange f) = f < F
Within F N (split_point old new fs) = (old < N) × (new < N) × All (λ f. f < F) fs × (rising fs ≡ true)
Within F N (isolated_point v) = v < N

-- the most bytes of a line
abbrev pub weight : Line → ℕ
weight (dropped_face f why) = 22
weight (exchange f) = 10
weight (split_point old new fs) = 18 + 8 * length fs
weight (isolated_point v) = 10

-- of several
abbrev pub weights : List Line → ℕ
weights [] = 0
weights (l ∷ ls) = weight l + weights ls

-- of lines one after the other
pub weights_append : (xs ys : List Line) → weights (xs ++ ys) ≡ weights xs + weights ys
weights_append [] ys = omega arith
weights_append (x ∷ xs) ys = let e = weights_append xs ys in omega arith

module _ (F N : ℕ) (hf : F ≤ 10000000) (hn : N ≤ 10000000) where
  -- such lines have a text
  pub within_sound : (l : Line) → Within F N l → Sound l
  within_sound (dropped_face f why) h = omega arith
  within_sound (exchange f) h = omega arith
  within_sound (split_point old new fs) h = (omega (arith, h.0), omega (arith, h.1), all_imp (λ f. f < F) (λ f. f ≤ 4294967295) (λ f q. omega arith) fs h.2, h.3)
  within_sound (isolated_point v) h = omega arith

  -- a tab and a number
  field : (n : ℕ) → n < 10000000 → length (9 ∷ decimal n) ≤ 8
  field n h = omega (arith, decimal_seven n h)

  -- numbers after tabs
  listed_fields : (fs : List ℕ) → All (λ f. f < F) fs → length (each (λ f. 9 ∷ f) (map decimal fs)) ≤ 8 * length fs
  unfolding each
  listed_fields [] h = omega arith
  listed_fields (f ∷ fs) h =
      omega (arith, field f (omega (arith, h.0)), listed_fields fs h.1, length-append (9 ∷ decimal f) (each (λ g. 9 ∷ g) (map decimal fs)))

  -- a pass has one digit, and a word at most nine letters
  reason_bytes : (why : Reason) → length (decimal (pass_of why)) + length (bytes (word_of why)) ≤ 10
  reason_bytes why = go why
    where
      go : (why : Reason) → length (decimal (pass_of why)) + length (bytes (word_of why)) ≤ 10
      go for_repeated = unfold pass_of word_of bytes decimal digits in (omega arith)
      go for_thin = unfold pass_of word_of bytes decimal digits in (omega arith)
      go for_duplicate = unfold pass_of word_of bytes decimal digits in (omega arith)
      go for_edge = unfold pass_of word_of bytes decimal digits in (omega arith)
      go for_direction = unfold pass_of word_of bytes decimal digits in (omega arith)

  -- a line is not longer than its weight
  body_weight : (l : Line) → Within F N l → suc (length (body l)) ≤ weight l
  unfolding each bytes
  body_weight (dropped_face f why) h =
      let d = decimal f in
      let p = decimal (pass_of why) in
      let w = bytes (word_of why) in
      omega (
        arith,
        field f (omega arith),
        reason_bytes why,
        length-append (9 ∷ d) ((9 ∷ p) ++ ((9 ∷ w) ++ [])),
        length-append (9 ∷ p) ((9 ∷ w) ++ []),
        length-append (9 ∷ w) [],
      )
  body_weight (exchange f) h = omega (arith, field f (omega arith), length-append (9 ∷ decimal f) [])
  body_weight (split_point old new fs) h =
      omega (
        arith,
        field old (omega (arith, h.0)),
        field new (omega (arith, h.1)),
        listed_fields fs h.2,
        length-append (9 ∷ decimal old) ((9 ∷ decimal new) ++ each (λ g. 9 ∷ g) (map decimal fs)),
        length-append (9 ∷ decimal new) (each (λ g. 9 ∷ g) (map decimal fs)),
      )
  body_weight (isolated_point v) h = omega (arith, field v (omega arith), length-append (9 ∷ decimal v) [])

  -- nor is the text of lines
  pub text_weight : (ls : List Line) → All (Within F N) ls → length (each line_text ls) ≤ weights ls
  unfolding each
  text_weight [] h = omega arith
  text_weight (l ∷ ls) h =
      omega (
        arith,
        length-append (line_text l) (each line_text ls),
        ap length (text_body l),
        length-append (body l) (10 ∷ []),
        body_weight l h.0,
        text_weight ls h.1,
      )

-- ---- a line for each marked number below n

module _ (p : ℕ → Bool) (line : ℕ → Line) where
  -- their numbers
  pub marks_within : (F N n : ℕ) → ((i : ℕ) → i < n → Within F N (line i)) → All (Within F N) (each (λ i. cond (p i) (line i ∷ []) []) (below n))
  marks_within F N n h =
      all_each (Within F N) (λ i. cond (p i) (line i ∷ []) []) (below n)
      (all_imp (λ i. i < n) (λ i. All (Within F N) (cond (p i) (line i ∷ []) [])) (λ i q. go (p i) i (h i q)) (below n) (below_all n))
    where
      go : (b : Bool) (i : ℕ) → Within F N (line i) → All (Within F N) (cond b (line i ∷ []) [])
      go true i q = (q, tt)
      go false i q = tt

  -- their weight
  pub marks_weight : (w : ℕ) → ((i : ℕ) → weight (line i) ≡ w) → (n : ℕ) → weights (each (λ i. cond (p i) (line i ∷ []) []) (below n)) ≡ w * count p (below n)
  unfolding below
  marks_weight w h zero = unfold each count filter in (omega arith)
  marks_weight w h (suc n) = go (p n) refl (marks_weight w h n)
    where
      go : (b : Bool) → p n ≡ b → weights (each (λ i. cond (p i) (line i ∷ []) []) (below n)) ≡ w * count p (below n) → weights (each (λ i. cond (p i) (line i ∷ []) []) (below (suc n))) ≡ w * count p (below (suc n))
      go b e r =
          ap weights (each_append (λ i. cond (p i) (line i ∷ []) []) (below n) (n ∷ []))
          ∙ weights_append (each (λ i. cond (p i) (line i ∷ []) []) (below n)) (each (λ i. cond (p i) (line i ∷ []) []) (n ∷ []))
          ∙ (λ i. r i + one i)
          ∙ sums (count p (below n)) (p n)
          ∙ ap (λ c. w * c) (sym (count_below p n))
        where
          one : weights (each (λ i. cond (p i) (line i ∷ []) []) (n ∷ [])) ≡ cond (p n) w 0
          one = unfold each in (pick (p n))
            where
              pick : (b : Bool) → weights (cond b (line n ∷ []) [] ++ []) ≡ cond b w 0
              pick true = omega (arith, h n)
              pick false = refl

          sums : (c : ℕ) (b : Bool) → w * c + cond b w 0 ≡ w * (c + cond b 1 0)
          sums c true = omega arith
          sums c false = omega arith
