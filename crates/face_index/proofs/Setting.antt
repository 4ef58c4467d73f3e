-- Bits of a word: of two words' union and common part, and of the index when one is set. Assumes nothing.
use mathlib.Core.Path.{◌≡◌, sym, ap, ◌∙◌, subst}
use mathlib.Core.List.{List}
use Prim.Native.Nat.{ℕ, ◌+◌, ◌*◌, ◌/◌, ◌%◌, ◌^◌, ◌≤◌, ◌<◌, min, max}
use native.Mathlib.Omega.{arith}
use native.Mathlib.Nat.{div_self, mul-le-mul_right}
use native.Mathlib.Decide.{ℕ_discrete}
use lib.Pow.{pow_pos, pow-lt}
use lib.Bits.{bit_and, bit_or, or_step, and_step, or_shr, and_shr}
use lib.ListN.{length, get_or, set, length-set}
use lib.Seq.{get_or-set_same, get_or-set_other}
use Rattle.face_index.specs.Index.{bucket_of, width_of, bit_of, bit_at, NoteAsks, NoteGives}

or_odd : (a b : ℕ) → bit_or a b % 2 ≡ max (a % 2) (b % 2)
or_odd a b = omega (arith, or_step a b)

and_odd : (a b : ℕ) → bit_and a b % 2 ≡ min (a % 2) (b % 2)
and_odd a b = omega (arith, and_step a b)

-- a bit of the union
pub bit_of_or : (x y k : ℕ) → bit_of (bit_or x y) k ≡ max (bit_of x k) (bit_of y k)
unfolding bit_of
bit_of_or x y k = ap (λ (z : ℕ). z % 2) (or_shr x y k) ∙ or_odd (x / 2 ^ k) (y / 2 ^ k)

-- a bit of the common part
pub bit_of_and : (x y k : ℕ) → bit_of (bit_and x y) k ≡ min (bit_of x k) (bit_of y k)
unfolding bit_of
bit_of_and x y k = ap (λ (z : ℕ). z % 2) (and_shr x y k) ∙ and_odd (x / 2 ^ k) (y / 2 ^ k)

-- a bit is 0 or 1
pub bit_most : (x k : ℕ) → bit_of x k ≤ 1
unfolding bit_of
bit_most x k = omega arith

-- a word of one bit
pub bit_one : (k : ℕ) → k < 32 → bit_of (1 * 2 ^ k % 4294967296) k ≡ 1
unfolding bit_of
bit_one k h =
    let l : 2 ^ k < 2 ^ 32 = pow-lt {i = k} {j = 32} h in
    let e : 1 * 2 ^ k % 4294967296 ≡ 2 ^ k = omega arith in
    ap (λ (z : ℕ). z / 2 ^ k % 2) e ∙ ap (λ (z : ℕ). z % 2) (div_self {n = 2 ^ k} (pow_pos k))

-- a bucket is below 1024
pub bucket_low : (v : ℕ) → bucket_of v < 1024
unfolding bucket_of
bucket_low v = omega arith

-- a word of a row is in the index
pub in_row : (ix : List ℕ) (b j : ℕ) → b < 1024 → j < width_of ix → b * width_of ix + j < length ix
in_row ix b j h l = within (width_of ix) (length ix) (mul-le-mul_right {m = b + 1} {n = 1024} (width_of ix) (omega arith)) (unfold width_of in (omega arith)) l
  where
    within : (w n : ℕ) → (b + 1) * w ≤ 1024 * w → 1024 * w ≤ n → j < w → b * w + j < n
    within w n p q r = omega arith

-- the word of a block
pub word_in : {ix : List ℕ} {k : ℕ} → NoteAsks ix k → (v : ℕ) → bucket_of v * width_of ix + k / 32 < length ix
word_in {ix} {k} p v = in_row ix (bucket_of v) (k / 32) (bucket_low v) (omega (arith, p.here))

module _ {ix : List ℕ} {k : ℕ} (p : NoteAsks ix k) (v y : ℕ) (e : bit_of y (k % 32) ≡ 1) where
  abbrev word_at : ℕ
  word_at = bucket_of v * width_of ix + k / 32

  pub note_done : NoteGives ix v k (set ix (bucket_of v * width_of ix + k / 32) (bit_or (get_or ix (bucket_of v * width_of ix + k / 32) 0) y))
  note_done =
      record {
        long = long;
        noted = unfold bit_at in (rw wide (rw (get_or-set_same ix word_at new 0 (word_in p v)) (bit_of_or (get_or ix word_at 0) y (k % 32) ∙ omega (arith, e, bit_most (get_or ix word_at 0) (k % 32)))));
        kept = λ u j o. unfold bit_at in (rw wide (go (bucket_of u * width_of ix + j / 32) (j % 32) (unfold bit_at in o) (ℕ_discrete word_at (bucket_of u * width_of ix + j / 32))));
      }
    where
      new : ℕ
      new = bit_or (get_or ix word_at 0) y

      long : length (set ix word_at new) ≡ length ix
      long = length-set ix word_at new

      wide : width_of (set ix word_at new) ≡ width_of ix
      wide = unfold width_of in (ap (λ (n : ℕ). n / 1024) long)

      go : (at i : ℕ) → bit_of (get_or ix at 0) i ≡ 1 → Dec (word_at ≡ at) → bit_of (get_or (set ix word_at new) at 0) i ≡ 1
      go at i o (yes s) = rw (← s, get_or-set_same ix word_at new 0 (word_in p v)) (bit_of_or (get_or ix word_at 0) y i ∙ omega (arith, subst (λ (z : ℕ). bit_of (get_or ix z 0) i ≡ 1) (sym s) o, bit_most y i))
      go at i o (no s) = rw (get_or-set_other ix word_at at new 0 (λ e. s (sym e))) o

-- the word that is read and written
module _ {ix : List ℕ} {k r : ℕ} (p : NoteAsks ix k) (v : ℕ) (b : r ≡ bucket_of v) where
  pub word_read : r * (length ix / 1024) + k / 32 < length ix
  unfolding width_of
  word_read = rw b (word_in p v)

  pub noted_there : NoteGives ix v k (set ix (r * (length ix / 1024) + k / 32) (bit_or (get_or ix (r * (length ix / 1024) + k / 32) 0) (1 * 2 ^ (k % 32) % 4294967296)))
  unfolding width_of
  noted_there = rw b (note_done p v (1 * 2 ^ (k % 32) % 4294967296) (bit_one (k % 32) (omega arith)))
