-- Running totals: q values of at most 2 ^ k each, added one after the other with rounding, are at most q * 2 ^ k, as long as q has no more digits
-- than the format. Values are counted in the format's smallest. Assumes nothing.
use mathlib.Core.Path.{◌≡◌, sym, ap, ◌∙◌, subst}
use mathlib.Core.Bool.{true, false}
use Prim.Native.Nat.{ℕ, suc, ◌+◌, ◌-◌, ◌*◌, ◌/◌, ◌^◌, ◌≤◌, ◌<◌}
use native.Mathlib.Nat.{le_trans, le_of_eq, lt_of_le_of_lt, mul-pos, mul-le-mul_right, div-lt_iff_lt-mul, mul-lt-mul_of_pos_right}
use native.Mathlib.Omega.{arith}
use lib.Dec.{T}
use lib.Pow.{pow-add, pow_pos}
use lib.Ieee.{Float, nan, inf, fin, Format, prec, emax, low, up, down, size, round, add}
use lib.Ieee.Digits.{size-le}
use lib.Ieee.Fits.{down_pos, round_is}
use lib.Ieee.Exact.{HasValue, units_val}
use lib.Ieee.Nearest.{closest, closest_mono}
use lib.Ieee.Order.{drop, kept}
use lib.Ieee.Scale.{grid}
use lib.Ieee.Positive.{num, den, value→cross}
use Rattle.root.specs.Nearest.{plain}
use Rattle.rule_laws.proofs.Bounds.{Upto, closest_exact, value_plain}

-- x is finite and not negative, and at most q * 2 ^ k smallest values
pub record Total (f : Format) (q k : ℕ) (x : Float) : Type 0 where
  pub is_plain : T (plain x)
  pub small : num x * 2 ^ low f ≤ q * 2 ^ k * den x

-- a total of q values is bounded by a power of two that is no smaller
pub total_upto : {f : Format} {q k : ℕ} {x : Float} (n : ℕ) → q * 2 ^ k ≤ 2 ^ n → Total f q k x → Upto f n x
total_upto {f} {q} {k} {x} n h t = record { is_plain = t.is_plain; small = le_trans t.small (mul-le-mul_right (den x) h) }

-- of at most p + k digits, at most k lie behind the first p
spare : (z p k : ℕ) → z ≤ p + k → z - p ≤ k
spare z p k h = omega arith

-- a bound of no more digits than the format is kept
kept_total : (p n c q k : ℕ) → 0 < c → q < 2 ^ p → n ≤ q * 2 ^ k * c → kept p n c * 2 ^ drop p n c ≤ q * 2 ^ k
kept_total p n c q k C Q h =
    let d = drop p n c in
    let u = c * 2 ^ d in
    let U : 0 < u = mul-pos C (pow_pos d) in
    let a : q * 2 ^ k < 2 ^ (p + k) = subst (λ (z : ℕ). q * 2 ^ k < z) (sym (pow-add 2 p k)) (mul-lt-mul_of_pos_right Q (pow_pos k)) in
    let D : d ≤ k = spare (size (n / c)) p k (size-le (n / c) (p + k) ((div-lt_iff_lt-mul C).1 (lt_of_le_of_lt h (mul-lt-mul_of_pos_right a C)))) in
    let b : 2 ^ (k - d) * 2 ^ d ≡ 2 ^ k = sym (pow-add 2 (k - d) d) ∙ ap (λ (x : ℕ). 2 ^ x) (omega arith) in
    let w = q * 2 ^ (k - d) in
    let e : w * u ≡ q * 2 ^ k * c = regroup q (2 ^ (k - d)) c (2 ^ d) ∙ ap (λ (x : ℕ). q * x * c) b in
    let m : closest n u ≤ w = le_trans (closest_mono n u (w * u) u U U (mul-le-mul_right u (le_trans h (le_of_eq (sym e))))) (le_of_eq (closest_exact w u U)) in
    le_trans (mul-le-mul_right (2 ^ d) m) (le_of_eq (assoc q (2 ^ (k - d)) (2 ^ d) ∙ ap (λ (x : ℕ). q * x) b))
  where
    regroup : (q r c p : ℕ) → q * r * (c * p) ≡ q * (r * p) * c
    regroup q r c p = omega arith

    assoc : (q r p : ℕ) → q * r * p ≡ q * (r * p)
    assoc q r p = omega arith

-- a sum of two fractions, the one at most q * K and the other at most K
total_bound : (X Y L K q de dd : ℕ) → X * L ≤ q * K * de → Y * L ≤ K * dd → (X * dd + Y * de) * L ≤ suc q * K * (de * dd)
total_bound X Y L K q de dd h g =
    let a : X * L * dd ≤ q * K * de * dd = mul-le-mul_right dd h in
    let b : Y * L * de ≤ K * dd * de = mul-le-mul_right de g in
    omega arith

module _ {f : Format} where
  -- `round` keeps such a bound
  round_total : (a c q k : ℕ) → 0 < c → q < 2 ^ prec f → q * 2 ^ k < 2 ^ (low f + suc (emax f)) → a * 2 ^ low f ≤ q * 2 ^ k * c → Total f q k (round f false a c)
  round_total a c q k C Q F h =
      let x = round f false a c in
      let b = kept_total (prec f) (a * 2 ^ low f) c q k C Q h in
      let v : HasValue x false (grid f a c) (2 ^ low f) =
      subst (λ (z : Float). HasValue z false (grid f a c) (2 ^ low f)) (sym (round_is f false a c))
      (units_val f false (kept (prec f) (a * 2 ^ low f) c) (drop (prec f) (a * 2 ^ low f) c) (lt_of_le_of_lt b F)) in
      record {
        is_plain = value_plain f x (grid f a c) (2 ^ low f) v;
        small = le_trans (le_of_eq (value→cross x (grid f a c) (2 ^ low f) v)) (mul-le-mul_right (den x) b);
      }

  -- one value more
  pub add_total : {q k : ℕ} {x y : Float} → Total f q k x → Upto f k y → suc q < 2 ^ prec f → suc q * 2 ^ k < 2 ^ (low f + suc (emax f)) → Total f (suc q) k (add f x y)
  unfolding add
  add_total {q = q} {k = k} {x = nan} {y = y} p r Q F = absurd p.is_plain
  add_total {q = q} {k = k} {x = inf s} {y = y} p r Q F = absurd p.is_plain
  add_total {q = q} {k = k} {x = fin true m e} {y = y} p r Q F = absurd p.is_plain
  add_total {q = q} {k = k} {x = fin false m e} {y = nan} p r Q F = absurd r.is_plain
  add_total {q = q} {k = k} {x = fin false m e} {y = inf t} p r Q F = absurd r.is_plain
  add_total {q = q} {k = k} {x = fin false m e} {y = fin true n d} p r Q F = absurd r.is_plain
  add_total {q = q} {k = k} {x = fin false m e} {y = fin false n d} p r Q F =
      round_total (m * up e * down d + n * up d * down e) (down e * down d) (suc q) k (mul-pos (down_pos e) (down_pos d)) Q F
      (total_bound (m * up e) (n * up d) (2 ^ low f) (2 ^ k) q (down e) (down d) p.small r.small)
