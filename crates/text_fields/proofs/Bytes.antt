-- Which bytes are digits, decimal and hex, and what they write. Assumes nothing.
use Rattle.std.specs.Prelude.{Some, None}
use mathlib.Core.Path.{◌≡◌, refl, ap, ◌∙◌}
use mathlib.Core.Bool.{Bool, true, false, cond}
use Prim.Native.Nat.{ℕ, ◌+◌, ◌-◌, ◌≤◌, ◌<◌}
use native.Mathlib.Omega.{arith}
use lib.Dec.{ltb, leb}
use borrow.Author.Tests.{ltb-true, ltb-false, leb-true, lt-ltb, le-ltb, le-leb, lt-leb}
use Rattle.text_fields.specs.Fields.{digit, nibble}

-- ---- decimal

-- a digit
pub digit_in : {b : ℕ} → 48 ≤ b → b ≤ 57 → digit b ≡ Some (b - 48)
unfolding digit
digit_in {b} h k = rw (le-ltb b 48 h, le-ltb 57 b k) refl

-- what a byte is that writes d
pub record Digit (b d : ℕ) : Type 0 where
  pub low : d < 10
  pub byte : b ≡ 48 + d

-- a byte that is a digit
pub digit_of : (b d : ℕ) → digit b ≡ Some d → Digit b d
unfolding digit
digit_of b d = go (ltb b 48) (ltb 57 b) refl refl
  where
    go : (s t : Bool) → ltb b 48 ≡ s → ltb 57 b ≡ t → cond s None (cond t None (Some (b - 48))) ≡ Some d → Digit b d
    go true t p q e = absurd (cc)
    go false true p q e = absurd (cc)
    go false false p q e =
        let v : b - 48 ≡ d = cc in
        let h = ltb-false b 48 p in
        let k = ltb-false 57 b q in
        record { low = omega arith; byte = omega arith }

-- ---- hex

-- a digit
nibble_digit : {b : ℕ} → 48 ≤ b → b ≤ 57 → nibble b ≡ Some (b - 48)
unfolding nibble
nibble_digit {b} h k = rw (le-ltb b 48 h, le-leb b 57 k) refl

-- a letter
nibble_letter : {b : ℕ} → 97 ≤ b → b ≤ 102 → nibble b ≡ Some (b - 87)
unfolding nibble
nibble_letter {b} h k = rw (le-ltb b 48 (omega arith), lt-leb b 57 (omega arith), le-ltb b 97 h, le-ltb 102 b k) refl

-- the byte that writes d
abbrev pub hex_byte : ℕ → ℕ
hex_byte d = cond (ltb d 10) (48 + d) (87 + d)

-- what a byte is that writes d
pub record Nibble (b d : ℕ) : Type 0 where
  pub low : d < 16
  pub byte : b ≡ hex_byte d
  pub value : cond (leb b 57) (b - 48) (b - 87) ≡ d

-- a byte that is a lower-case hex digit
pub nibble_of : (b d : ℕ) → nibble b ≡ Some d → Nibble b d
unfolding nibble
nibble_of b d = go (ltb b 48) (leb b 57) (ltb b 97) (ltb 102 b) refl refl refl refl
  where
    go :
        (s t u v : Bool) → ltb b 48 ≡ s → leb b 57 ≡ t → ltb b 97 ≡ u → ltb 102 b ≡ v
        → cond s None (cond t (Some (b - 48)) (cond u None (cond v None (Some (b - 87))))) ≡ Some d → Nibble b d
    go true t u v p q r z e = absurd (cc)
    go false true u v p q r z e =
        let n : b - 48 ≡ d = cc in
        let h = ltb-false b 48 p in
        let k = leb-true b 57 q in
        record { low = omega arith; byte = rw (lt-ltb d 10 (omega arith)) (omega arith); value = rw q n }
    go false false true v p q r z e = absurd (cc)
    go false false false true p q r z e = absurd (cc)
    go false false false false p q r z e =
        let n : b - 87 ≡ d = cc in
        let h = ltb-false b 97 r in
        let k = ltb-false 102 b z in
        record { low = omega arith; byte = rw (le-ltb d 10 (omega arith)) (omega arith); value = rw q n }

-- the byte that is written for d reads d
pub nibble_byte : (d : ℕ) → d < 16 → nibble (hex_byte d) ≡ Some d
nibble_byte d h = go (ltb d 10) refl
  where
    go : (t : Bool) → ltb d 10 ≡ t → nibble (cond t (48 + d) (87 + d)) ≡ Some d
    go true e =
        let k = ltb-true d 10 e in
        let v : 48 + d - 48 ≡ d = omega arith in
        nibble_digit {b = 48 + d} (omega arith) (omega arith) ∙ ap Some v
    go false e =
        let k = ltb-false d 10 e in
        let v : 87 + d - 87 ≡ d = omega arith in
        nibble_letter {b = 87 + d} (omega arith) (omega arith) ∙ ap Some v
