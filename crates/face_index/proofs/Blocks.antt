-- The blocks of faces: a row has a bit for each, and which faces are passed with a word or a block. Assumes nothing.
use mathlib.Core.Path.{◌≡◌, ap}
use mathlib.Core.List.{List}
use Prim.Native.Nat.{ℕ, ◌+◌, ◌*◌, ◌/◌, ◌%◌, ◌^◌, ◌≤◌, ◌<◌}
use native.Mathlib.Omega.{arith}
use native.Mathlib.Nat.{div-lt_iff_lt-mul, le-div_iff_mul-le, lt-mul-div-succ, div-mul-le_self, mul-le-mul_right, div-le_self}
use lib.ListN.{length}
use Rattle.rules.specs.Refusal.{most_faces}
use Rattle.face_index.specs.Index.{width_of, size_of, bit_of, IndexAsks, PastAsks, PastGives}

-- so many blocks that a row has a bit for each
few_blocks : (F d f : ℕ) → 0 < d → f < F → f / (F / d + 1) < d
few_blocks F d f h l = (div-lt_iff_lt-mul {k = F / d + 1} {x = f} {y = d} (omega arith)).1 (omega (arith, lt-mul-div-succ F {b = d} h))

module _ {xs ix : List ℕ} (p : IndexAsks xs ix) where
  pub wide : 0 < width_of ix
  unfolding width_of
  wide = omega (arith, p.wide)

  pub sized : 0 < size_of xs ix
  unfolding size_of
  sized = omega arith

  pub small : size_of xs ix ≤ most_faces + 1
  unfolding size_of
  small = omega (arith, p.few, div-le_self (length xs / 3) (32 * width_of ix))

  pub block_low : (f : ℕ) → f < length xs / 3 → f / size_of xs ix < 32 * width_of ix
  unfolding size_of
  block_low f h = few_blocks (length xs / 3) (32 * width_of ix) f (omega (arith, wide)) h

-- a later face is in no earlier block
later : (f g s : ℕ) → 0 < s → f ≤ g → f / s ≤ g / s
later f g s h l = (le-div_iff_mul-le {k = s} {x = f / s} {y = g} h).1 (omega (arith, div-mul-le_self f s))

module _ {f s : ℕ} (p : PastAsks f s) where
  -- the face after a word is not far
  pub word_near : (f / s / 32 + 1) * 32 * s ≤ f + 32 * s
  word_near = omega (arith, mul-le-mul_right {m = (f / s / 32 + 1) * 32} {n = f / s + 32} s (omega arith), div-mul-le_self f s)

  -- nor the one after a block
  pub block_near : (f / s + 1) * s ≤ f + s
  block_near = omega (arith, div-mul-le_self f s)

  -- how many blocks
  pub block_most : f / s ≤ f
  block_most = div-le_self f s

  -- no bit is set
  pub past_word : {x : ℕ} → x ≡ 0 → PastGives x f s ((f / s / 32 + 1) * 32 * s)
  past_word {x} e =
      record {
        more = (div-lt_iff_lt-mul {k = s} {x = f} {y = (f / s / 32 + 1) * 32} p.sized).0 (omega arith);
        clear = λ g l h. let k : g / s < (f / s / 32 + 1) * 32 = (div-lt_iff_lt-mul {k = s} {x = g} {y = (f / s / 32 + 1) * 32} p.sized).1 h in
            (omega (arith, later f g s p.sized (omega arith), k), unfold bit_of in (none (2 ^ (g / s % 32))));
      }
    where
      none : (d : ℕ) → x / d % 2 ≡ 0
      none d = omega (arith, div-le_self x d)

  -- the block's bit is not set
  pub past_block : {x : ℕ} → x / 2 ^ (f / s % 32) % 2 ≡ 0 → PastGives x f s ((f / s + 1) * s)
  past_block {x} e =
      record {
        more = (div-lt_iff_lt-mul {k = s} {x = f} {y = f / s + 1} p.sized).0 (omega arith);
        clear = λ g l h.
            let k : g / s < f / s + 1 = (div-lt_iff_lt-mul {k = s} {x = g} {y = f / s + 1} p.sized).1 h in
            let same : g / s ≡ f / s = omega (arith, later f g s p.sized (omega arith), k) in
            (ap (λ (z : ℕ). z / 32) same, rw same (unfold bit_of in e));
      }
