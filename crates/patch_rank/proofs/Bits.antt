-- The bits of a number that is not negative, as a whole number, rise with it: the order of areas is that of their bits. Assumes nothing.
use mathlib.Core.Path.{◌≡◌, sym, ap, subst, ◌∙◌}
use mathlib.Core.Bool.{true, false}
use mathlib.Core.Logic.{⊎_elim}
use Prim.Native.Nat.{ℕ, ◌+◌, ◌-◌, ◌*◌, ◌/◌, ◌^◌, ◌≤◌, ◌<◌}
use native.Mathlib.Nat.{le_refl, le_trans, le_of_eq, le_of_lt, eq-or-lt_of_le, lt_of_le_of_lt, lt_of_lt_of_le, lt_irrefl, lt_of_not-le, not-le_of_lt, zero-add, mul-le-mul_right, le-div_iff_mul-le, div-lt_iff_lt-mul, le_of_mul-le-mul_right}
use native.Mathlib.Omega.{arith}
use lib.Pow.{pow-add, pow_pos, pow_mono}
use lib.Dec.{T, ltb, ltb→lt, lt→ltb, lit<}
use lib.Ieee.{Float, nan, inf, fin, binary64, size, to_bits, of_bits, fits, lt}
use lib.Ieee.Digits.{size-lt, size-le, size_reaches}
use lib.Ieee.Bits.{of_bits-to_bits}
use lib.Ieee.Positive.{num, den, den_pos}
use Rattle.root.specs.Nearest.{plain}
use Rattle.root.proofs.Nearest.{lt→cross, cross→lt}
use Rattle.rule_laws.proofs.Tests.{both_ways}
use Rattle.rule_laws.proofs.Bounds.{Upto}
use Rattle.patch_rank.specs.Rank.{Area}

-- the bits of u units: the exponent and the digits
abbrev packed : ℕ → ℕ
packed u = (size u - 53) * 2 ^ 52 + u / 2 ^ (size u - 53)

-- the units of a number, rounded down
abbrev units_of : Float → ℕ
units_of x = num x * 2 ^ 1074 / den x

-- the bits of a number that is not negative
bits_are : (x : Float) → T (plain x) → to_bits binary64 x ≡ packed (units_of x)
unfolding to_bits
bits_are nan p = absurd p
bits_are (inf s) p = absurd p
bits_are (fin true m e) p = absurd p
bits_are (fin false m e) p = ap (λ (y : ℕ). y + units_of (fin false m e) / 2 ^ (size (units_of (fin false m e)) - 53)) (zero-add ((size (units_of (fin false m e)) - 53) * 2 ^ 52))

-- ---- the digits

-- at most 53 digits stand after the exponent's
digits_under : (u : ℕ) → u / 2 ^ (size u - 53) < 2 ^ 53
digits_under u =
    let s : ℕ = size u - 53 in
    (div-lt_iff_lt-mul (pow_pos s)).1
    (lt_of_lt_of_le (size-lt u) (le_trans (pow_mono {i = size u} {j = 53 + s} (omega arith)) (le_of_eq (pow-add 2 53 s))))

-- the first of them is 1 where there is an exponent
digits_over : (u : ℕ) → 53 < size u → 2 ^ 52 ≤ u / 2 ^ (size u - 53)
digits_over u h =
    let s : ℕ = size u - 53 in
    (le-div_iff_mul-le (pow_pos s)).1
    (le_trans (le_of_eq (sym (pow-add 2 52 s))) (size_reaches u (52 + s) (omega arith)))

-- a larger exponent has more bits, whatever the digits
exponents : (s t a b : ℕ) → s < t → a < 2 ^ 53 → 2 ^ 52 ≤ b → s * 2 ^ 52 + a ≤ t * 2 ^ 52 + b
exponents s t a b h l k = omega arith

-- with the same exponent more units have more digits
digits_mono : (u v s t : ℕ) → u ≤ v → s ≡ t → u / 2 ^ s ≤ v / 2 ^ t
digits_mono u v s t h e = rw (← e) ((le-div_iff_mul-le (pow_pos s)).1 (le_trans ((le-div_iff_mul-le (pow_pos s)).0 (le_refl (u / 2 ^ s))) h))

-- more units, more bits
packed_mono : (u v : ℕ) → u ≤ v → packed u ≤ packed v
packed_mono u v h =
    let z : size u ≤ size v = size-le u (size v) (lt_of_le_of_lt h (size-lt v)) in
    go (size u - 53) (size v - 53) (u / 2 ^ (size u - 53)) (v / 2 ^ (size v - 53)) (omega arith) (digits_under u)
    (λ l. digits_over v (omega arith)) (digits_mono u v (size u - 53) (size v - 53) h)
  where
    go : (s t a b : ℕ) → s ≤ t → a < 2 ^ 53 → (s < t → 2 ^ 52 ≤ b) → (s ≡ t → a ≤ b) → s * 2 ^ 52 + a ≤ t * 2 ^ 52 + b
    go s t a b l f g e = ⊎_elim (λ (q : s ≡ t). omega (arith, e q)) (λ (q : s < t). exponents s t a b q f (g q)) (eq-or-lt_of_le l)

-- ---- fractions

-- a / c at most b / d, with the denominators multiplied out
scaled : (q a b c d L : ℕ) → q * c ≤ a * L → a * d ≤ b * c → q * d * c ≤ b * L * c
scaled q a b c d L h k =
    let f : q * c * d ≤ a * L * d = mul-le-mul_right d h in
    let g : a * d * L ≤ b * c * L = mul-le-mul_right L k in
    omega arith

-- a larger number has no fewer units
units_mono : (x y : Float) → num x * den y ≤ num y * den x → units_of x ≤ units_of y
units_mono x y h =
    (le-div_iff_mul-le (den_pos y)).1
    (le_of_mul-le-mul_right
    (scaled (units_of x) (num x) (num y) (den x) (den y) (2 ^ 1074) ((le-div_iff_mul-le (den_pos x)).0 (le_refl (units_of x))) h) (den_pos x))

-- and no fewer bits
bits_mono : (x y : Float) → T (plain x) → T (plain y) → num x * den y ≤ num y * den x → to_bits binary64 x ≤ to_bits binary64 y
bits_mono x y p q h = rw (bits_are x p, bits_are y q) (packed_mono (units_of x) (units_of y) (units_mono x y h))

-- ---- the order of areas

-- the same bits, the same number
bits_only : (x y : Float) → T (fits binary64 x) → T (fits binary64 y) → to_bits binary64 x ≡ to_bits binary64 y → x ≡ y
bits_only x y f g e = sym (of_bits-to_bits binary64 x f) ∙ ap (of_bits binary64) e ∙ of_bits-to_bits binary64 y g

-- less is less by the bits
pub lt_bits : (x y : Float) → Area x → Area y → lt x y ≡ ltb (to_bits binary64 x) (to_bits binary64 y)
lt_bits x y a b =
    both_ways (lt x y) (ltb (to_bits binary64 x) (to_bits binary64 y))
    (λ t. lt→ltb (to_bits binary64 x) (to_bits binary64 y) (less (lt→cross x y a.is_plain b.is_plain t)))
    (λ t. cross→lt x y a.is_plain b.is_plain
    (lt_of_not-le (λ h. not-le_of_lt (ltb→lt (to_bits binary64 x) (to_bits binary64 y) t) (bits_mono y x b.is_plain a.is_plain h))))
  where
    less : num x * den y < num y * den x → to_bits binary64 x < to_bits binary64 y
    less h =
        ⊎_elim
        (λ (e : to_bits binary64 x ≡ to_bits binary64 y).
        absurd (lt_irrefl (num y * den y) (subst (λ z. num z * den y < num y * den z) (bits_only x y a.held b.held e) h)))
        (λ l. l)
        (eq-or-lt_of_le (bits_mono x y a.is_plain b.is_plain (le_of_lt h)))

-- ---- an area of the rules is one

-- few units have few bits
packed_small : (u : ℕ) → u ≤ 2 ^ 1297 → packed u < 2 ^ 63
packed_small u h =
    go (size u) (u / 2 ^ (size u - 53)) (size-le u 1298 (lt_of_le_of_lt h (lit< tt))) (digits_under u)
  where
    go : (z a : ℕ) → z ≤ 1298 → a < 2 ^ 53 → (z - 53) * 2 ^ 52 + a < 2 ^ 63
    go z a l k = omega arith

-- a number that fits, is not negative and at most 2^223
pub area_is : (x : Float) → Upto binary64 1297 x → T (fits binary64 x) → Area x
area_is x b f =
    record {
      is_plain = b.is_plain;
      held = f;
      small = rw (bits_are x b.is_plain) (packed_small (units_of x) (few (num x) (den x) (den_pos x) b.small));
    }
  where
    few : (a c : ℕ) → 0 < c → a * 2 ^ 1074 ≤ 2 ^ 1297 * c → a * 2 ^ 1074 / c ≤ 2 ^ 1297
    few a c p h = le_of_mul-le-mul_right (le_trans ((le-div_iff_mul-le p).0 (le_refl (a * 2 ^ 1074 / c))) h) p
