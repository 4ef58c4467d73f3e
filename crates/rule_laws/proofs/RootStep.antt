-- The rule for the square root on the bounds of proofs/Bounds.antt, from its being the nearest. Assumes nothing.
use mathlib.Core.Path.{◌≡◌, sym, ap, ◌∙◌, subst}
use mathlib.Core.Bool.{true, false}
use Prim.Native.Nat.{ℕ, zero, suc, ◌+◌, ◌*◌, ◌^◌, ◌≤◌, ◌<◌}
use native.Mathlib.Nat.{le_trans, le_of_eq, lt_of_lt_of_le, lt_of_le_of_lt, lt_of_not-le, le_of_suc-le-suc, not-le_of_lt, mul-pos, mul-le-mul, mul-le-mul_right, mul-lt-mul_of_pos_right, le_of_mul-le-mul_right}
use native.Mathlib.Omega.{arith}
use lib.Dec.{T, lit<, lit≤, lt→ltb}
use lib.Pow.{pow_pos, pow-lt}
use lib.Ieee.{Float, nan, inf, fin, binary64, low, up, down, odd, fits}
use lib.Ieee.Fits.{odd-fits, down_pos}
use lib.Ieee.Exact.{odd_sign}
use lib.Ieee.Positive.{num, den, den_pos, value→cross}
use Rattle.root.specs.Root.{root_of}
use Rattle.root.specs.Nearest.{plain, Nearest}
use Rattle.root.proofs.Nearest.{root_nearest, positive_plain, cross→lt}
use Rattle.root.proofs.Corollaries.{root_zero}
use Rattle.rule_laws.proofs.Bounds.{Upto, AtLeast, Fits, value_plain}
use Rattle.rule_laws.proofs.Fractions.{pow_le}

-- ---- over whole numbers: x is nx / dx, and y is ny / dy and K units of 1 / L

-- x, in units of units, with the other denominators
x_units : (nx L w : ℕ) → nx * w * L * L ≡ nx * L * (L * w)
x_units nx L w = omega arith

-- I units, the same
i_units : (I dx L dy dr : ℕ) → I * dx * (L * (dy * dy * (dr * dr))) ≡ I * L * (dx * (dr * dr) * (dy * dy))
i_units I dx L dy dr = omega arith

-- the square of y is K²
y_units : (ny dy dx dr L K : ℕ) → ny * L ≡ K * dy → K * K * (dx * (dr * dr) * (dy * dy)) ≡ ny * ny * (dx * (dr * dr)) * L * L
y_units ny dy dx dr L K e = apart K dy dx dr ∙ ap (λ (z : ℕ). z * z * (dx * (dr * dr))) (sym e) ∙ joined ny L (dx * (dr * dr))
  where
    apart : (K dy dx dr : ℕ) → K * K * (dx * (dr * dr) * (dy * dy)) ≡ K * dy * (K * dy) * (dx * (dr * dr))
    apart K dy dx dr = omega arith

    joined : (ny L w : ℕ) → ny * L * (ny * L) * w ≡ ny * ny * w * L * L
    joined ny L w = omega arith

-- x at most K² units of units: a nearest root r above y would be nearer to y
root_clash :
    (nr dr ny dy nx dx L I K : ℕ) → 0 < L → ny * L ≡ K * dy → nx * L ≤ I * dx → I * L ≤ K * K → ny * dr < nr * dy
    → (nr * dy + ny * dr) * (nr * dy + ny * dr) * dx < 4 * nx * (dr * dy * (dr * dy)) → ⊥
root_clash nr dr ny dy nx dx L I K l e h k g m =
    let s : (ny * dr + ny * dr) * (ny * dr + ny * dr) ≤ (nr * dy + ny * dr) * (nr * dy + ny * dr) = mul-le-mul (omega arith) (omega arith) in
    let a : (ny * dr + ny * dr) * (ny * dr + ny * dr) * dx < 4 * nx * (dr * dy * (dr * dy)) = lt_of_le_of_lt (mul-le-mul_right dx s) m in
    let b : ny * ny * (dx * (dr * dr)) < nx * (dy * dy * (dr * dr)) = four ny dr dx nx dy a in
    not-le_of_lt b
    (le_of_mul-le-mul_right
    (le_of_mul-le-mul_right
    (le_trans (le_of_eq (x_units nx L (dy * dy * (dr * dr))))
    (le_trans (mul-le-mul_right (L * (dy * dy * (dr * dr))) h)
    (le_trans (le_of_eq (i_units I dx L dy dr)) (le_trans (mul-le-mul_right (dx * (dr * dr) * (dy * dy)) k) (le_of_eq (y_units ny dy dx dr L K e))))))
    l)
    l)
  where
    four : (ny dr dx nx dy : ℕ) → (ny * dr + ny * dr) * (ny * dr + ny * dr) * dx < 4 * nx * (dr * dy * (dr * dy)) → ny * ny * (dx * (dr * dr)) < nx * (dy * dy * (dr * dr))
    four ny dr dx nx dy h = omega arith

-- x at least K² units of units: a nearest root r below y would be nearer to y
root_clash_from :
    (nr dr ny dy nx dx L I K : ℕ) → 0 < L → ny * L ≡ K * dy → I * dx ≤ nx * L → K * K ≤ I * L → nr * dy < ny * dr
    → 4 * nx * (dr * dy * (dr * dy)) < (nr * dy + ny * dr) * (nr * dy + ny * dr) * dx → ⊥
root_clash_from nr dr ny dy nx dx L I K l e h k g m =
    let s : (nr * dy + ny * dr) * (nr * dy + ny * dr) ≤ (ny * dr + ny * dr) * (ny * dr + ny * dr) = mul-le-mul (omega arith) (omega arith) in
    let a : 4 * nx * (dr * dy * (dr * dy)) < (ny * dr + ny * dr) * (ny * dr + ny * dr) * dx = lt_of_lt_of_le m (mul-le-mul_right dx s) in
    let b : nx * (dy * dy * (dr * dr)) < ny * ny * (dx * (dr * dr)) = four ny dr dx nx dy a in
    not-le_of_lt b
    (le_of_mul-le-mul_right
    (le_of_mul-le-mul_right
    (le_trans (le_of_eq (sym (y_units ny dy dx dr L K e)))
    (le_trans (mul-le-mul_right (dx * (dr * dr) * (dy * dy)) k)
    (le_trans (le_of_eq (sym (i_units I dx L dy dr))) (le_trans (mul-le-mul_right (L * (dy * dy * (dr * dr))) h) (le_of_eq (sym (x_units nx L (dy * dy * (dr * dr)))))))))
    l)
    l)
  where
    four : (ny dr dx nx dy : ℕ) → 4 * nx * (dr * dy * (dr * dy)) < (ny * dr + ny * dr) * (ny * dr + ny * dr) * dx → nx * (dy * dy * (dr * dr)) < ny * ny * (dx * (dr * dr))
    four ny dr dx nx dy h = omega arith

-- ---- 2 ^ k units as a float

module _ (k : ℕ) (F : Fits binary64 k) where
  -- the float
  abbrev power : Float
  power = odd 54 false 1 k 1074

  -- it is an f64
  power_fits : T (fits binary64 power)
  power_fits = odd-fits binary64 54 false 1 k (lit< tt) (lit≤ tt) (subst (λ (z : ℕ). z < 2 ^ 2098) (sym (one_one (2 ^ k))) (pow-lt F))
    where
      one_one : (a : ℕ) → 1 * a ≡ a
      one_one a = omega arith

  -- it is finite and not negative
  power_plain : T (plain power)
  power_plain = value_plain binary64 power (1 * 2 ^ k) (2 ^ 1074) (odd_sign 54 false 1 k 1074)

  -- its value
  power_value : num power * 2 ^ 1074 ≡ 2 ^ k * den power
  power_value = value→cross power (1 * 2 ^ k) (2 ^ 1074) (odd_sign 54 false 1 k 1074) ∙ one_mul (2 ^ k) (den power)
    where
      one_mul : (a b : ℕ) → 1 * a * b ≡ a * b
      one_mul a b = omega arith

  -- what is above 2 ^ k units is above it
  over_power : (r : Float) → 2 ^ k * den r < num r * 2 ^ 1074 → num power * den r < num r * den power
  over_power r g = below (num power) (den power) (num r) (den r) (2 ^ 1074) (2 ^ k) (den_pos power) power_value g
    where
      below : (ny dy nr dr L K : ℕ) → 0 < dy → ny * L ≡ K * dy → K * dr < nr * L → ny * dr < nr * dy
      below ny dy nr dr L K d e g = lt_of_not-le (λ (b : nr * dy ≤ ny * dr). bad b)
        where
          bad : nr * dy ≤ ny * dr → ⊥
          bad b =
              let u : nr * dy * L ≤ ny * dr * L = mul-le-mul_right L b in
              let w : K * dr * dy < nr * L * dy = mul-lt-mul_of_pos_right g d in
              let z : ny * L * dr ≡ K * dy * dr = ap (λ (q : ℕ). q * dr) e in
              omega arith

  -- and what is below is below
  under_power : (r : Float) → num r * 2 ^ 1074 < 2 ^ k * den r → num r * den power < num power * den r
  under_power r g = over (num power) (den power) (num r) (den r) (2 ^ 1074) (2 ^ k) (den_pos power) power_value g
    where
      over : (ny dy nr dr L K : ℕ) → 0 < dy → ny * L ≡ K * dy → nr * L < K * dr → nr * dy < ny * dr
      over ny dy nr dr L K d e g = lt_of_not-le (λ (b : ny * dr ≤ nr * dy). bad b)
        where
          bad : ny * dr ≤ nr * dy → ⊥
          bad b =
              let u : ny * dr * L ≤ nr * dy * L = mul-le-mul_right L b in
              let w : nr * L * dy < K * dr * dy = mul-lt-mul_of_pos_right g d in
              let z : ny * L * dr ≡ K * dy * dr = ap (λ (q : ℕ). q * dr) e in
              omega arith

-- ---- the rules

-- a root: half the exponent, counted from that of 1
pub root_upto : {i : ℕ} {x : Float} → T (fits binary64 x) → Upto binary64 i x → (k : ℕ) → i + low binary64 ≤ k + k → Fits binary64 k → Upto binary64 k (root_of x)
root_upto {i = i} {x = nan} t p k h F = absurd p.is_plain
root_upto {i = i} {x = inf s} t p k h F = absurd p.is_plain
root_upto {i = i} {x = fin true m e} t p k h F = absurd p.is_plain
root_upto {i = i} {x = fin false zero e} t p k h F =
    subst (λ (r : Float). Upto binary64 k r) (sym (root_zero false e)) (record { is_plain = tt; small = zero_small (up e) (2 ^ 1074) (2 ^ k * down e) })
  where
    zero_small : (u l b : ℕ) → 0 * u * l ≤ b
    zero_small u l b = omega arith
root_upto {i = i} {x = fin false (suc m) e} t p k h F =
    record {
      is_plain = positive_plain r N.sign;
      small = le_of_suc-le-suc (lt_of_not-le (λ (g : suc (2 ^ k * den r) ≤ num r * 2 ^ 1074). too_far g));
    }
  where
    x : Float
    x = fin false (suc m) e

    r : Float
    r = root_of x

    N : Nearest x r
    N = root_nearest x t (lt→ltb 0 (suc m) (omega arith))

    too_far : 2 ^ k * den r < num r * 2 ^ 1074 → ⊥
    too_far g =
        let y : Float = power k F in
        let l : num y * den r < num r * den y = over_power k F r g in
        root_clash (num r) (den r) (num y) (den y) (num x) (den x) (2 ^ 1074) (2 ^ i) (2 ^ k) (pow_pos 1074) (power_value k F) p.small (pow_le i 1074 k k h) l
        (N.below y (power_fits k F) (power_plain k F) (cross→lt y r (power_plain k F) (positive_plain r N.sign) l))

-- the same from below
pub root_from : {i : ℕ} {x : Float} → T (fits binary64 x) → T (plain x) → AtLeast binary64 i x → (k : ℕ) → k + k ≤ i + low binary64 → Fits binary64 k → AtLeast binary64 k (root_of x)
root_from {i = i} {x = nan} t p a k h F = absurd p
root_from {i = i} {x = inf s} t p a k h F = absurd p
root_from {i = i} {x = fin true m e} t p a k h F = absurd p
root_from {i = i} {x = fin false zero e} t p a k h F = absurd (none (up e) (2 ^ 1074) (2 ^ i * down e) (mul-pos (pow_pos i) (down_pos e)) a.large)
  where
    none : (u l b : ℕ) → 0 < b → b ≤ 0 * u * l → ⊥
    none u l b p h = omega arith
root_from {i = i} {x = fin false (suc m) e} t p a k h F =
    record { large = le_of_suc-le-suc (lt_of_not-le (λ (g : suc (num r * 2 ^ 1074) ≤ 2 ^ k * den r). too_far g)) }
  where
    x : Float
    x = fin false (suc m) e

    r : Float
    r = root_of x

    N : Nearest x r
    N = root_nearest x t (lt→ltb 0 (suc m) (omega arith))

    too_far : num r * 2 ^ 1074 < 2 ^ k * den r → ⊥
    too_far g =
        let y : Float = power k F in
        let l : num r * den y < num y * den r = under_power k F r g in
        root_clash_from (num r) (den r) (num y) (den y) (num x) (den x) (2 ^ 1074) (2 ^ i) (2 ^ k) (pow_pos 1074) (power_value k F) a.large (pow_le k k i 1074 h) l
        (N.above y (power_fits k F) (power_plain k F) (cross→lt r y (positive_plain r N.sign) (power_plain k F) l))
