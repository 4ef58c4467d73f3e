-- One bit of a number more, and the bits of a row after it. Assumes nothing.
use mathlib.Core.Path.{◌≡◌, refl, sym, ap, ◌∙◌}
use mathlib.Core.Bool.{Bool, true, false, cond, ◌||◌}
use mathlib.Core.List.{List}
use Prim.Native.Nat.{ℕ, zero, suc, ◌+◌, ◌-◌, ◌*◌, ◌/◌, ◌%◌, ◌^◌, ◌≤◌, ◌<◌, max}
use native.Mathlib.Decide.{ℕ_discrete}
use native.Mathlib.Omega.{arith}
use borrow.Author.Tests.{eq-eqb, ne_eqb, ltb-true, ltb-false}
use lib.Arith.{lt-one}
use lib.Bits.{bit_or, or_step, or_shr}
use lib.Dec.{eqb, ltb}
use lib.ListN.{length, get_or, set, length-set}
use lib.Pow.{pow-lt, pow-add, shl_exact, shl-shr, shr_lt}
use lib.Seq.{get_or-set_same, get_or-set_other}
use Rattle.point_bits.specs.Bits.{bit, SetGives}

-- the lowest bit of two numbers joined
or_odd : (a b : ℕ) → bit_or a b % 2 ≡ max (a % 2) (b % 2)
or_odd a b = go (bit_or a b) (bit_or (a / 2) (b / 2)) (or_step a b)
  where
    go : (x y : ℕ) → x ≡ y * 2 + max (a % 2) (b % 2) → x % 2 ≡ max (a % 2) (b % 2)
    go x y e = omega arith

-- bit j of two numbers joined
or_bit : (a b j : ℕ) → bit_or a b / 2 ^ j % 2 ≡ max (a / 2 ^ j % 2) (b / 2 ^ j % 2)
or_bit a b j = ap (λ (n : ℕ). n % 2) (or_shr a b j) ∙ or_odd (a / 2 ^ j) (b / 2 ^ j)

-- a power of two has its own bit
one_same : (j : ℕ) → 2 ^ j / 2 ^ j % 2 ≡ 1
one_same j =
    let e : 1 * 2 ^ j ≡ 2 ^ j = omega arith in
    ap (λ (n : ℕ). n % 2) (ap (λ (n : ℕ). n / 2 ^ j) (sym e) ∙ shl-shr 1 j)

-- and no other
one_above : (j k : ℕ) → k < j → 2 ^ k / 2 ^ j % 2 ≡ 0
one_above j k h =
    let l : 2 ^ k < 2 ^ (0 + j) = pow-lt {i = k} {j = 0 + j} (omega arith) in
    let z : 2 ^ k / 2 ^ j ≡ 0 = lt-one (shr_lt {n = 2 ^ k} 0 j l) in
    ap (λ (n : ℕ). n % 2) z

one_below : (j d : ℕ) → 2 ^ (suc d + j) / 2 ^ j % 2 ≡ 0
one_below j d =
    ap (λ (n : ℕ). n % 2) (ap (λ (n : ℕ). n / 2 ^ j) (pow-add 2 (suc d) j) ∙ shl-shr (2 ^ suc d) j) ∙ even d
  where
    even : (d : ℕ) → 2 ^ suc d % 2 ≡ 0
    even d = omega arith

one_other : (j k : ℕ) → (j ≡ k → ⊥) → 2 ^ k / 2 ^ j % 2 ≡ 0
one_other j k n = go (ltb k j) refl
  where
    go : (t : Bool) → ltb k j ≡ t → 2 ^ k / 2 ^ j % 2 ≡ 0
    go true h = one_above j k (ltb-true k j h)
    go false h =
        let l = ltb-false k j h in
        let e : k ≡ suc (k - suc j) + j = omega arith in
        ap (λ (i : ℕ). 2 ^ i / 2 ^ j % 2) e ∙ one_below j (k - suc j)

-- a number with one bit more
more_same : (a j : ℕ) → eqb (bit_or a (2 ^ j) / 2 ^ j % 2) 1 ≡ true
more_same a j = eq-eqb _ 1 (or_bit a (2 ^ j) j ∙ rw (one_same j) (low (a / 2 ^ j % 2) (omega arith)))
  where
    low : (n : ℕ) → n < 2 → max n 1 ≡ 1
    low n h = omega arith

more_other : (a j k : ℕ) → (j ≡ k → ⊥) → bit_or a (2 ^ k) / 2 ^ j % 2 ≡ a / 2 ^ j % 2
more_other a j k n = or_bit a (2 ^ k) j ∙ rw (one_other j k n) (low (a / 2 ^ j % 2))
  where
    low : (n : ℕ) → max n 0 ≡ n
    low n = omega arith

-- the row after it
pub set_gives : (w : List ℕ) (v : ℕ) → v / 32 < length w → SetGives w v (set w (v / 32) (bit_or (get_or w (v / 32) 0) (2 ^ (v % 32))))
unfolding bit
set_gives w v h = record { long = length-set w (v / 32) x; told = λ u. go u (ℕ_discrete (u / 32) (v / 32)) (ℕ_discrete u v) }
  where
    x : ℕ
    x = bit_or (get_or w (v / 32) 0) (2 ^ (v % 32))

    at_v : get_or (set w (v / 32) x) (v / 32) 0 ≡ x
    at_v = get_or-set_same w (v / 32) x 0 h

    go : (u : ℕ) → Dec (u / 32 ≡ v / 32) → Dec (u ≡ v)
        → eqb (get_or (set w (v / 32) x) (u / 32) 0 / 2 ^ (u % 32) % 2) 1 ≡ (eqb u v || eqb (get_or w (u / 32) 0 / 2 ^ (u % 32) % 2) 1)
    go u d (yes e) =
        rw (eq-eqb u v e)
        (ap (λ (z : ℕ). eqb (get_or (set w (v / 32) x) (z / 32) 0 / 2 ^ (z % 32) % 2) 1) e
        ∙ rw at_v (more_same (get_or w (v / 32) 0) (v % 32)))
    go u (yes d) (no n) =
        rw (ne_eqb u v n)
        (ap (λ (z : ℕ). eqb (z / 2 ^ (u % 32) % 2) 1) (ap (λ (z : ℕ). get_or (set w (v / 32) x) z 0) d ∙ at_v)
        ∙ ap (λ (z : ℕ). eqb z 1) (more_other (get_or w (v / 32) 0) (u % 32) (v % 32) (λ e. n (omega arith)))
        ∙ ap (λ (z : ℕ). eqb (get_or w z 0 / 2 ^ (u % 32) % 2) 1) (sym d))
    go u (no d) (no n) =
        rw (ne_eqb u v n) (ap (λ (z : ℕ). eqb (z / 2 ^ (u % 32) % 2) 1) (get_or-set_other w (v / 32) (u / 32) x 0 d))

-- 1 shifted is a power of two
pub shifted : (v : ℕ) → 1 * 2 ^ (v % 32) % 4294967296 ≡ 2 ^ (v % 32)
shifted v =
    let e : 1 * 2 ^ (v % 32) ≡ 2 ^ (v % 32) = omega arith in
    shl_exact {a = 1} 1 (v % 32) 32 (omega arith) (omega arith) ∙ e
