-- A field holds a number if it is what is written for it: read digit by digit. Assumes nothing.
use Rattle.std.specs.Prelude.{Result, Ok, Err, Some, None, OkIff}
use Rattle.std.specs.Result.{result_ok}
use mathlib.Core.Path.{◌≡◌, refl, sym, ap, ◌∙◌}
use mathlib.Core.Bool.{Bool, true, false, cond, ◌&&◌, true≢false}
use mathlib.Core.Option.{none, some}
use mathlib.Core.List.{List, [], ◌∷◌, ◌++◌}
use Prim.Native.Nat.{ℕ, zero, suc, ◌+◌, ◌*◌, ◌^◌, ◌≤◌, ◌<◌}
use native.Mathlib.Omega.{arith}
use native.Mathlib.Numerals.{add-one}
use lib.Dec.{leb, ltb}
use borrow.Author.Tests.{leb-true, ltb-true, ltb-false, le-leb}
use lib.ListN.{length, get_or, take}
use lib.Seq.{take-suc, take_all}
use Rattle.rules.specs.Line.{digits, decimal, plain}
use Rattle.rules.specs.Text.{equal, of_decimal, whole}
use Rattle.rule_laws.proofs.Rising.{all_at}
use Rattle.rule_laws.proofs.Texts.{equal_same, equal_self}
use Rattle.rule_laws.proofs.Digits as digit-laws
use Rattle.rule_laws.proofs.Digits.{digits_are, digits_some, digits_short, digits_lead, tens, digits_plain, plain_decimal, digits_more, digits_of}
use Rattle.text_fields.specs.Fields.{digit, PlainIs, PlainNone, held}
use Rattle.text_fields.proofs.Bytes.{digit_of, digit_in}

-- ---- the loop over the digits

-- the first i bytes are what is written for n, which is not zero
pub record Digits (field : List ℕ) (n i : ℕ) : Type 0 where
  pub at_most : i ≤ length field
  pub form : take i field ≡ digits i n
  pub small : n < 10 ^ i
  pub some_left : 0 < i → 0 < n

-- before the first turn there are none
pub digits_begin : {field : List ℕ} → Digits field 0 0
unfolding digits
digits_begin = record { at_most = omega arith; form = refl; small = omega arith; some_left = λ h. absurd (omega arith) }

-- what a turn needs: the number is below 10 ^ 18 before it
pub record Turn (n : ℕ) : Type 0 where
  pub few : n < 10 ^ 18

module _ {field : List ℕ} {n i : ℕ} (v : Digits field n i) (h : i < length field) where
  -- a number of at most 18 digits
  pub digits_turn : length field ≤ 19 → Turn n
  digits_turn l = record { few = omega (arith, v.small, tens i 18 (omega arith)) }

  -- a digit more is written behind the others
  pub digits_again : (get_or field 0 0 ≡ 48 → ⊥) → (d : ℕ) → digit (get_or field i 0) ≡ Some d → Digits field (10 * n + d) (i + 1)
  digits_again lead d e =
      let b = get_or field i 0 in
      let g = digit_of b d e in
      let k : take (suc i) field ≡ take i field ++ (b ∷ []) = take-suc field i 0 h in
      let s = v.small in
      let low = g.low in
      let byte = g.byte in
      let first : i ≡ 0 → 0 < d = λ z. nonzero d byte (λ y. lead (ap (λ (m : ℕ). get_or field m 0) (sym z) ∙ byte ∙ ap (λ (m : ℕ). 48 + m) y)) in
      rw add-one
      (record {
        at_most = omega arith;
        form = k ∙ rw (v.form, byte) (sym (digits_more i n d low v.some_left s first));
        small = omega arith;
        some_left = λ z. positive i n d v.some_left first;
      })
    where
      nonzero : (m : ℕ) → get_or field i 0 ≡ 48 + m → (m ≡ 0 → ⊥) → 0 < m
      nonzero zero y z = absurd (z refl)
      nonzero (suc m) y z = omega arith

      positive : (j m d : ℕ) → (0 < j → 0 < m) → (j ≡ 0 → 0 < d) → 0 < 10 * m + d
      positive zero m d y z = omega (arith, z refl)
      positive (suc j) m d y z = omega (arith, y (omega arith))

  -- a byte that is no digit is written for no number
  pub no_digit : digit (get_or field i 0) ≡ None → PlainNone field
  unfolding plain
  no_digit e =
      record {
        none = λ n l f.
            let d = all_at digit-laws.Digit field 0 i (rw (← f) at (digits_are 20 n)) h in
            let is = digit_in {b = get_or field i 0} d.low d.high in
            cc;
      }

-- after the last digit: the field is what is written for n
pub digits_done : {field : List ℕ} {n i : ℕ} → Digits field n i → length field ≤ i → 0 < length field → length field ≤ 19 → PlainIs field n
digits_done {field} {n} {i} v h p q =
    let a = v.at_most in
    record {
      few = omega (arith, v.small, tens i 19 (omega arith));
      form = sym (take_all i field h) ∙ v.form ∙ digits_plain i n (omega arith) (omega arith) v.small;
    }

-- ---- fields that hold no number before any digit is read

-- no number is written with no digit
pub none_empty : (field : List ℕ) → length field ≡ 0 → PlainNone field
unfolding plain
none_empty field e = record { none = λ n l f. omega (arith, ap length f, digits_some 19 n) }

-- none of at most 19 digits with more
pub none_long : (field : List ℕ) → 19 < length field → PlainNone field
none_long field e =
    record { none = λ n l f. omega (arith, ap length (f ∙ sym (digits_plain 19 n (omega arith) (omega arith) l)), digits_short 19 n) }

-- a zero leads nothing but itself
pub none_lead : (field : List ℕ) → get_or field 0 0 ≡ 48 → 1 < length field → PlainNone field
unfolding plain digits
none_lead field e h = record { none = go }
  where
    go : (n : ℕ) → n < 10 ^ 19 → field ≡ plain n → ⊥
    go zero m f = omega (arith, ap length f)
    go (suc n) m f = digits_lead 20 (suc n) (omega arith) (omega arith) (ap (λ (z : List ℕ). get_or z 0 0) (sym f) ∙ e)

-- what is written for zero
zero_is : 48 ∷ [] ≡ plain 0
unfolding plain digits
zero_is = refl

-- a zero alone is zero
pub just_zero : (field : List ℕ) → get_or field 0 0 ≡ 48 → length field ≡ 1 → PlainIs field 0
just_zero [] e h = absurd (omega arith)
just_zero (x ∷ []) e h = record { few = omega arith; form = ap (λ (b : ℕ). b ∷ []) e ∙ zero_is }
just_zero (x ∷ y ∷ ys) e h = absurd (omega arith)

-- ---- a u32

-- both tests hold
both : (a b : Bool) → (a && b) ≡ true → (a ≡ true) × (b ≡ true)
both true b e = (refl, e)
both false b e = absurd (true≢false (sym e))

-- a field that is not what is written for its number holds none
not_whole : (field : List ℕ) → (of_decimal field ≤ 4294967295 → field ≡ plain (of_decimal field) → ⊥) → none ≡ whole field
unfolding whole
not_whole field h = go (leb (of_decimal field) 4294967295 && equal field (decimal (of_decimal field))) refl
  where
    go : (t : Bool) → (leb (of_decimal field) 4294967295 && equal field (decimal (of_decimal field))) ≡ t → none ≡ cond t (some (of_decimal field)) none
    go true e =
        let b = both _ _ e in
        let l = leb-true _ _ b.0 in
        absurd (h l (equal_same _ _ b.1 ∙ plain_decimal (of_decimal field) (omega arith)))
    go false e = refl

-- one that is written for no number holds none
pub whole_none : (field : List ℕ) → PlainNone field → none ≡ whole field
whole_none field p = not_whole field (λ l f. p.none (of_decimal field) (omega arith) f)

module _ {field : List ℕ} {n : ℕ} (p : PlainIs field n) where
  -- the number that is read is the one that is written
  value : of_decimal field ≡ n
  unfolding plain
  value = ap of_decimal p.form ∙ digits_of 20 n (omega (arith, p.few))

  -- one above 2^32 - 1 is none
  pub whole_above : 4294967295 < n → none ≡ whole field
  whole_above h = not_whole field (λ l f. omega (arith, value))

  -- any other is the field's
  pub whole_is : n ≤ 4294967295 → some n ≡ whole field
  unfolding whole
  whole_is h = rw (value, le-leb n 4294967295 h, plain_decimal n (omega arith), ← p.form, equal_self field) refl

-- so what the conversion to a u32 keeps of it is what the rules read
pub whole_of : {E : Type 0} {field : List ℕ} {n : ℕ} → PlainIs field n → (r : Result ℕ E) → OkIff r (n < 4294967296) n → held (result_ok r) ≡ whole field
whole_of p (Ok m) h = ap some h.1 ∙ whole_is p (omega (arith, h.0))
whole_of {n = n} p (Err e) h = whole_above p (omega (arith, not_below h))
  where
    not_below : (n < 4294967296 → ⊥) → 4294967296 ≤ n
    not_below f = go (ltb n 4294967296) refl
      where
        go : (t : Bool) → ltb n 4294967296 ≡ t → 4294967296 ≤ n
        go true q = absurd (f (ltb-true n 4294967296 q))
        go false q = ltb-false n 4294967296 q
