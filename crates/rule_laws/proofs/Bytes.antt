-- Numbers in bytes, the lowest first: what is written is read, and what is read is written. Assumes nothing.
use mathlib.Core.Path.{◌≡◌, refl, sym, ap, ap₂, ◌∙◌}
use mathlib.Core.List.{List, [], ◌∷◌, ◌++◌}
use Prim.Native.Nat.{ℕ, zero, suc, ◌+◌, ◌*◌, ◌/◌, ◌^◌, ◌≤◌, ◌<◌}
use native.Mathlib.Nat.{add_assoc}
use native.Mathlib.Omega.{arith}
use lib.ListN.{length, get_or, take, drop, length-drop}
use lib.Seq.{get_or-append-add, get_or-drop, drop-drop, take-add}
use Rattle.rules.specs.Bytes.{little, u32_at, u64_at}

-- a number in k bytes is k bytes
pub little_long : (k n : ℕ) → length (little k n) ≡ k
unfolding little
little_long zero n = refl
little_long (suc k) n = ap suc (little_long k (n / 256))

-- ---- what is written is read

-- a u32 behind other bytes
pub u32_behind : (pre rest : List ℕ) (j : ℕ) → u32_at (pre ++ rest) (length pre + j) ≡ u32_at rest j
unfolding u32_at
u32_behind pre rest j =
    rw (add_assoc (length pre) j 1, add_assoc (length pre) j 2, add_assoc (length pre) j 3)
    (rw (get_or-append-add pre rest j 0, get_or-append-add pre rest (j + 1) 0, get_or-append-add pre rest (j + 2) 0, get_or-append-add pre rest (j + 3) 0) refl)

-- and a u64
pub u64_behind : (pre rest : List ℕ) (j : ℕ) → u64_at (pre ++ rest) (length pre + j) ≡ u64_at rest j
u64_behind pre rest j =
    ap₂ (λ (a b : ℕ). a + 4294967296 * b) (u32_behind pre rest j)
    (ap (u32_at (pre ++ rest)) (add_assoc (length pre) j 4) ∙ u32_behind pre rest (j + 4))

-- ---- what is read is written

-- each entry of a file is a byte
pub record Bytes (file : List ℕ) : Type 0 where
  pub small : (i : ℕ) → i < length file → get_or file i 0 < 256

-- a u32 from the front of what is left behind n bytes
u32_drop : (file : List ℕ) (n j : ℕ) → u32_at file (n + j) ≡ u32_at (drop n file) j
unfolding u32_at
u32_drop file n j =
    rw (add_assoc n j 1, add_assoc n j 2, add_assoc n j 3)
    (rw (get_or-drop n file j 0, get_or-drop n file (j + 1) 0, get_or-drop n file (j + 2) 0, get_or-drop n file (j + 3) 0) refl)

-- four bytes in front, each by its remainder
four : (xs : List ℕ) → 4 ≤ length xs → ((j : ℕ) → j < 4 → get_or xs j 0 < 256) → little 4 (u32_at xs 0) ≡ take 4 xs
unfolding u32_at little
four [] l b = absurd (omega arith)
four (x0 ∷ []) l b = absurd (omega arith)
four (x0 ∷ x1 ∷ []) l b = absurd (omega arith)
four (x0 ∷ x1 ∷ x2 ∷ []) l b = absurd (omega arith)
four (x0 ∷ x1 ∷ x2 ∷ x3 ∷ rest) l b =
    let b0 : x0 < 256 = b 0 (omega arith) in
    let b1 : x1 < 256 = b 1 (omega arith) in
    let b2 : x2 < 256 = b 2 (omega arith) in
    let b3 : x3 < 256 = b 3 (omega arith) in
    list4 _ _ _ _ _ _ _ _ (omega arith) (omega arith) (omega arith) (omega arith)
  where
    list4 : (a b c d a' b' c' d' : ℕ) → a ≡ a' → b ≡ b' → c ≡ c' → d ≡ d' → a ∷ b ∷ c ∷ d ∷ [] ≡ a' ∷ b' ∷ c' ∷ d' ∷ []
    list4 a b c d a' b' c' d' p q r s = rw (p, q, r, s) refl

-- eight bytes are two fours
little_two : (a b : ℕ) → a < 2 ^ 32 → b < 2 ^ 32 → little 8 (a + 4294967296 * b) ≡ little 4 a ++ little 4 b
unfolding little
little_two a b h k = list8 _ _ _ _ _ _ _ _ _ _ _ _ _ _ _ _ (omega arith) (omega arith) (omega arith) (omega arith) (omega arith) (omega arith) (omega arith) (omega arith)
  where
    list8 :
        (a b c d e f g h a' b' c' d' e' f' g' h' : ℕ) → a ≡ a' → b ≡ b' → c ≡ c' → d ≡ d' → e ≡ e' → f ≡ f' → g ≡ g' → h ≡ h'
        → a ∷ b ∷ c ∷ d ∷ e ∷ f ∷ g ∷ h ∷ [] ≡ a' ∷ b' ∷ c' ∷ d' ∷ e' ∷ f' ∷ g' ∷ h' ∷ []
    list8 a b c d e f g h a' b' c' d' e' f' g' h' p q r s t u v w = rw (p, q, r, s, t, u, v, w) refl

-- four bytes are below 2^32
u32_small : (xs : List ℕ) → ((j : ℕ) → j < 4 → get_or xs j 0 < 256) → u32_at xs 0 < 2 ^ 32
unfolding u32_at
u32_small xs b = omega (arith, b 0 (omega arith), b 1 (omega arith), b 2 (omega arith), b 3 (omega arith))

module _ {file : List ℕ} (by : Bytes file) where
  -- the bytes from j on are bytes
  near : (j : ℕ) → j + 4 ≤ length file → (k : ℕ) → k < 4 → get_or (drop j file) k 0 < 256
  near j h k l = rw (get_or-drop j file k 0) (by.small (j + k) (omega arith))

  -- the u32 at j stands in front of what is left behind j bytes
  at_front : (j : ℕ) → u32_at file j ≡ u32_at (drop j file) 0
  at_front j = let e : j ≡ j + 0 = omega arith in ap (u32_at file) e ∙ u32_drop file j 0

  -- the u32 at j is below 2^32
  pub small_at : (j : ℕ) → j + 4 ≤ length file → u32_at file j < 2 ^ 32
  small_at j h = rw (at_front j) (u32_small (drop j file) (near j h))

  -- written again it is its four bytes
  pub four_at : (j : ℕ) → j + 4 ≤ length file → little 4 (u32_at file j) ≡ take 4 (drop j file)
  four_at j h = ap (little 4) (at_front j) ∙ four (drop j file) (omega (arith, length-drop j file)) (near j h)

  -- some bytes, and those behind them
  pub more_at : (j k m : ℕ) → take (k + m) (drop j file) ≡ take k (drop j file) ++ take m (drop (j + k) file)
  more_at j k m = take-add k m (drop j file) ∙ ap (λ (l : List ℕ). take k (drop j file) ++ take m l) (drop-drop k j file)

  -- the u64 at j, written again, is its eight bytes
  pub eight_at : (j : ℕ) → j + 8 ≤ length file → little 8 (u64_at file j) ≡ take 8 (drop j file)
  eight_at j h =
      little_two (u32_at file j) (u32_at file (j + 4)) (small_at j (omega arith)) (small_at (j + 4) (omega arith))
      ∙ ap₂ (λ (a b : List ℕ). a ++ b) (four_at j (omega arith)) (four_at (j + 4) (omega arith))
      ∙ sym (more_at j 4 4)
