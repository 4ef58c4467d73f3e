-- A float's field holds 16 hex digits: read digit by digit. Assumes nothing.
use Rattle.std.specs.Prelude.{Some, None}
use mathlib.Core.Path.{◌≡◌, refl, sym, ap, ◌∙◌}
use mathlib.Core.Bool.{Bool, true, false, cond}
use mathlib.Core.Option.{none, some}
use mathlib.Core.List.{List, [], ◌∷◌, ◌++◌}
use Prim.Native.Nat.{ℕ, zero, suc, ◌+◌, ◌-◌, ◌*◌, ◌/◌, ◌%◌, ◌^◌, ◌≤◌, ◌<◌}
use native.Mathlib.Omega.{arith}
use native.Mathlib.Numerals.{add-one}
use lib.Dec.{leb}
use lib.Ieee.{binary64, of_bits}
use lib.ListN.{length, get_or, take, length-append}
use lib.Seq.{take-suc, take_all}
use Rattle.rows.proofs.FilterLaws.{All, all_at, all_append}
use Rattle.rules.specs.Lists.{through}
use Rattle.rule_laws.proofs.Lists.{through_append}
use Rattle.rules.specs.Text.{equal, hex, of_hex, real}
use Rattle.text_fields.specs.Fields.{nibble}
use Rattle.text_fields.proofs.Bytes.{hex_byte, nibble_of, nibble_byte}
use Rattle.rule_laws.proofs.Texts.{equal_same, equal_self}

-- k digits are k bytes
hex_long : (k n : ℕ) → length (hex k n) ≡ k
unfolding hex
hex_long zero n = refl
hex_long (suc k) n = simp length-append (omega (arith, hex_long k (n / 16)))

-- the bytes written are lower-case hex digits
hex_all : (k n : ℕ) → All (λ b. nibble b ≡ None → ⊥) (hex k n)
unfolding hex
hex_all zero n = tt
hex_all (suc k) n =
    all_append (λ b. nibble b ≡ None → ⊥) (hex k (n / 16)) (hex_byte (n % 16) ∷ []) (hex_all k (n / 16))
    ((λ e. let f = nibble_byte (n % 16) (omega arith) in cc), tt)

-- a field that is not what is written for its number holds none
pub not_real : (field : List ℕ) → (field ≡ hex 16 (of_hex field) → ⊥) → none ≡ real field
unfolding real
not_real field h = go (equal field (hex 16 (of_hex field))) refl
  where
    go : (t : Bool) → equal field (hex 16 (of_hex field)) ≡ t → none ≡ cond t (some (of_bits binary64 (of_hex field))) none
    go true e = absurd (h (equal_same _ _ e))
    go false e = refl

-- a field that is holds its float
pub is_real : (field : List ℕ) (n : ℕ) → n ≡ of_hex field → field ≡ hex 16 n → some (of_bits binary64 n) ≡ real field
unfolding real
is_real field n v f = rw (← v, ← f, equal_self field) refl

-- powers of sixteen rise
sixteens : (i j : ℕ) → i ≤ j → 16 ^ i ≤ 16 ^ j
sixteens zero zero h = omega arith
sixteens zero (suc j) h = omega (arith, sixteens zero j (omega arith))
sixteens (suc i) zero h = omega arith
sixteens (suc i) (suc j) h = omega (arith, sixteens i j (omega arith))

-- ---- the loop over the digits

-- the first i bytes are what is written for n
pub record Nibbles (field : List ℕ) (n i : ℕ) : Type 0 where
  pub at_most : i ≤ 16
  pub value : n ≡ of_hex (take i field)
  pub form : take i field ≡ hex i n
  pub small : n < 16 ^ i

-- before the first turn there are none
pub nibbles_begin : {field : List ℕ} → Nibbles field 0 0
unfolding of_hex through hex
nibbles_begin = record { at_most = omega arith; value = refl; form = refl; small = omega arith }

-- a byte more is a digit more of the number
of_hex_more : (xs : List ℕ) (b : ℕ) → of_hex (xs ++ (b ∷ [])) ≡ 16 * of_hex xs + cond (leb b 57) (b - 48) (b - 87)
unfolding of_hex through
of_hex_more xs b = through_append (λ n c. 16 * n + cond (leb c 57) (c - 48) (c - 87)) 0 xs (b ∷ [])

-- and a digit more is written
hex_more : (i n d : ℕ) → d < 16 → hex (suc i) (16 * n + d) ≡ hex i n ++ (hex_byte d ∷ [])
unfolding hex
hex_more i n d h =
    let q : (16 * n + d) / 16 ≡ n = omega arith in
    let r : (16 * n + d) % 16 ≡ d = omega arith in
    rw (q, r) refl

-- what a turn needs: the number is below 16 ^ 15 before it
pub record Turn (n : ℕ) : Type 0 where
  pub few : n < 16 ^ 15

module _ {field : List ℕ} {n i : ℕ} (v : Nibbles field n i) (h : i < 16) where
  -- a number of at most 15 digits
  pub nibbles_turn : Turn n
  nibbles_turn = record { few = omega (arith, v.small, sixteens i 15 (omega arith)) }

  -- a digit more
  pub nibbles_again : length field ≡ 16 → (d : ℕ) → nibble (get_or field i 0) ≡ Some d → Nibbles field (16 * n + d) (i + 1)
  nibbles_again l d e =
      let b = get_or field i 0 in
      let g = nibble_of b d e in
      let k : take (suc i) field ≡ take i field ++ (b ∷ []) = take-suc field i 0 (omega arith) in
      let s = v.small in
      let low = g.low in
      rw add-one
      (record {
        at_most = omega arith;
        value = sym (ap of_hex k ∙ of_hex_more (take i field) b ∙ rw (← v.value, g.value) refl);
        form = k ∙ rw v.form (ap (λ (z : ℕ). hex i n ++ (z ∷ [])) g.byte ∙ sym (hex_more i n d low));
        small = omega arith;
      })

  -- a byte that is no such digit is written for no float
  pub no_nibble : length field ≡ 16 → nibble (get_or field i 0) ≡ None → none ≡ real field
  no_nibble l e =
      not_real field (λ f. all_at (λ b. nibble b ≡ None → ⊥) field (rw (← f) at (hex_all 16 (of_hex field))) i (omega arith) e)

-- after the last digit the field is what is written for n
pub nibbles_done : {field : List ℕ} {n i : ℕ} → Nibbles field n i → length field ≡ 16 → 16 ≤ i → some (of_bits binary64 n) ≡ real field
nibbles_done {field} {n} {i} v l h =
    let a = v.at_most in
    let e : i ≡ 16 = omega arith in
    let t = take_all i field (omega arith) in
    is_real field n (v.value ∙ ap of_hex t) (sym t ∙ v.form ∙ ap (λ (k : ℕ). hex k n) e)

-- a field of another length holds none
pub none_other : (field : List ℕ) → (length field ≡ 16 → ⊥) → none ≡ real field
none_other field h = not_real field (λ f. h (ap length f ∙ hex_long 16 (of_hex field)))
