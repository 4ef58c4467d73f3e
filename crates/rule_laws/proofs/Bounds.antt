-- Magnitudes by powers of two under rounding, counted in the format's smallest value: 2 ^ 0 is that value itself and 2 ^ low f is 1.
-- Rounding keeps a bound that is a power of two, subnormal results included. Assumes nothing.
use mathlib.Core.Path.{◌≡◌, sym, ap, ◌∙◌, subst, refl}
use mathlib.Core.Bool.{Bool, true, false, true≢false}
use Prim.Native.Nat.compare
use Prim.Native.Nat.{ℕ, zero, suc, ◌+◌, ◌-◌, ◌*◌, ◌/◌, ◌%◌, ◌^◌, ◌≤◌, ◌<◌, compare, Ordering}
use native.Mathlib.Nat.{le_refl, le_trans, le_of_eq, le_of_lt, lt_irrefl, lt_of_le_of_lt, mul-pos, mul-le-mul_right, le-div_iff_mul-le, div-lt_iff_lt-mul, mul-div_cancel, mul-mod_left}
use native.Mathlib.Omega.{arith}
use lib.Dec.{T, ltb, ltb→lt}
use borrow.Author.Tests.{ltb-false}
use lib.Pow.{pow-add, pow_pos, pow_mono, pow-lt}
use lib.Ieee.{Float, nan, inf, fin, Format, prec, emax, low, size, nearest, round}
use lib.Ieee.Digits.{size-le, size_reaches}
use lib.Ieee.Fits.{round_is, two}
use lib.Ieee.Exact.{HasValue, units_val}
use lib.Ieee.Nearest.{closest, closest_mono, nearest-ge}
use lib.Ieee.Order.{drop, kept}
use lib.Ieee.Scale.{grid, finite}
use lib.Ieee.Positive.{num, den}
use Rattle.root.specs.Nearest.{plain}

-- x is finite, and at most 2 ^ k smallest values in magnitude
pub record Within (f : Format) (k : ℕ) (x : Float) : Type 0 where
  pub is_finite : T (finite x)
  pub small : num x * 2 ^ low f ≤ 2 ^ k * den x

-- x is finite and not negative (so neither NaN nor infinite), and at most 2 ^ k smallest values
pub record Upto (f : Format) (k : ℕ) (x : Float) : Type 0 where
  pub is_plain : T (plain x)
  pub small : num x * 2 ^ low f ≤ 2 ^ k * den x

-- x is at least 2 ^ k smallest values in magnitude
pub record AtLeast (f : Format) (k : ℕ) (x : Float) : Type 0 where
  pub large : 2 ^ k * den x ≤ num x * 2 ^ low f

-- 2 ^ k of the smallest values is below the overflow
abbrev pub Fits : Format → ℕ → Type 0
Fits f k = k < low f + suc (emax f)

-- finite and not negative is finite
pub plain_finite : (x : Float) → T (plain x) → T (finite x)
plain_finite nan p = absurd p
plain_finite (inf s) p = absurd p
plain_finite (fin s m e) p = tt

-- a bound of a number that is not negative is a bound of its magnitude
pub upto_within : {f : Format} {k : ℕ} {x : Float} → Upto f k x → Within f k x
upto_within {f} {k} {x} h = record { is_finite = plain_finite x h.is_plain; small = h.small }

-- a bound may be made larger
pub upto_more : {f : Format} {i : ℕ} {x : Float} (k : ℕ) → i ≤ k → Upto f i x → Upto f k x
upto_more {f} {i} {x} k h p = record { is_plain = p.is_plain; small = le_trans p.small (mul-le-mul_right (den x) (pow_mono h)) }

-- ---- rounding keeps a bound that is a power of two

-- a comparison of 0 with a number above it
above_zero : (u : ℕ) → 0 < u → compare 0 u ≡ Ordering.lt
above_zero zero h = absurd (lt_irrefl 0 h)
above_zero (suc u) h = compare.zero-suc u

-- a whole number of units rounds to itself
pub closest_exact : (q u : ℕ) → 0 < u → closest (q * u) u ≡ q
closest_exact q u h =
    ap (λ (x : ℕ). nearest x (compare (q * u % u * 2) u)) (mul-div_cancel q h)
    ∙ ap (λ (x : ℕ). nearest q (compare (x * 2) u)) (mul-mod_left q u)
    ∙ ap (λ (o : Ordering). nearest q o) (above_zero u h)

-- a power of two and what is left of the exponent
back : (k d : ℕ) → d ≤ k → 2 ^ (k - d) * 2 ^ d ≡ 2 ^ k
back k d h = sym (pow-add 2 (k - d) d) ∙ ap (λ (x : ℕ). 2 ^ x) (omega arith)

-- a product, its factors in another order
regroup : (q c p : ℕ) → q * (c * p) ≡ q * p * c
regroup q c p = omega arith

-- of at most k + 1 digits, at most k lie behind the first two or more
few : (z p k : ℕ) → z ≤ suc k → 2 ≤ p → z - p ≤ k
few z p k h g = omega arith

module _ (p n c : ℕ) (P : 2 ≤ p) (C : 0 < c) where
  -- rounding to p digits keeps n / c ≤ 2 ^ k
  kept_upto : (k : ℕ) → n ≤ 2 ^ k * c → kept p n c * 2 ^ drop p n c ≤ 2 ^ k
  kept_upto k h =
      let d = drop p n c in
      let u = c * 2 ^ d in
      let U : 0 < u = mul-pos C (pow_pos d) in
      let lt : n < 2 ^ suc k * c = lt_of_le_of_lt h (grow (2 ^ k) (2 ^ suc k) c (pow-lt (le_refl (suc k))) C) in
      let D : d ≤ k = few (size (n / c)) p k (size-le (n / c) (suc k) ((div-lt_iff_lt-mul C).1 lt)) P in
      let e : 2 ^ (k - d) * u ≡ 2 ^ k * c = regroup (2 ^ (k - d)) c (2 ^ d) ∙ ap (λ (x : ℕ). x * c) (back k d D) in
      let m : closest n u ≤ 2 ^ (k - d) =
      le_trans (closest_mono n u (2 ^ (k - d) * u) u U U (mul-le-mul_right u (le_trans h (le_of_eq (sym e))))) (le_of_eq (closest_exact (2 ^ (k - d)) u U)) in
      le_trans (mul-le-mul_right (2 ^ d) m) (le_of_eq (back k d D))
    where
      grow : (a b c : ℕ) → a < b → 0 < c → a * c < b * c
      grow a b c h g = let m : suc a * c ≤ b * c = mul-le-mul_right c h in omega arith

  -- rounding to p digits keeps 2 ^ k ≤ n / c
  kept_from : (k : ℕ) → 2 ^ k * c ≤ n → 2 ^ k ≤ kept p n c * 2 ^ drop p n c
  kept_from k h = go (ltb k (drop p n c)) refl
    where
      go : (b : Bool) → ltb k (drop p n c) ≡ b → 2 ^ k ≤ kept p n c * 2 ^ drop p n c
      go true e =
          let d = drop p n c in
          let u = c * 2 ^ d in
          let l : k < d = ltb→lt k d (subst T (sym e) tt) in
          let r : 2 ^ d ≤ n / c = size_reaches (n / c) d (omega arith) in
          let one : 1 ≤ closest n u =
          le_trans ((le-div_iff_mul-le (mul-pos C (pow_pos d))).1 (le_trans (le_of_eq (turn c (2 ^ d))) ((le-div_iff_mul-le C).0 r))) (nearest-ge (n / u) (compare (n % u * 2) u)) in
          le_trans (pow_mono (le_of_lt l)) (le_trans (le_of_eq (omega arith)) (mul-le-mul_right (2 ^ d) one))
        where
          turn : (c q : ℕ) → 1 * (c * q) ≡ q * c
          turn c q = omega arith
      go false e =
          let d = drop p n c in
          let u = c * 2 ^ d in
          let U : 0 < u = mul-pos C (pow_pos d) in
          let D : d ≤ k = nlt k d e in
          let q : 2 ^ (k - d) * u ≡ 2 ^ k * c = regroup (2 ^ (k - d)) c (2 ^ d) ∙ ap (λ (x : ℕ). x * c) (back k d D) in
          let m : 2 ^ (k - d) ≤ closest n u =
          le_trans (le_of_eq (sym (closest_exact (2 ^ (k - d)) u U))) (closest_mono (2 ^ (k - d) * u) u n u U U (mul-le-mul_right u (le_trans (le_of_eq q) h))) in
          le_trans (le_of_eq (sym (back k d D))) (mul-le-mul_right (2 ^ d) m)
        where
          nlt : (a b : ℕ) → ltb a b ≡ false → b ≤ a
          nlt a b e = ltb-false a b e

module _ (f : Format) where
  -- what `round` gives of a / c that is at most 2 ^ k smallest values
  pub round_value : (s : Bool) (a c k : ℕ) → 0 < c → a * 2 ^ low f ≤ 2 ^ k * c → Fits f k → HasValue (round f s a c) s (grid f a c) (2 ^ low f)
  round_value s a c k C h F =
      subst (λ (z : Float). HasValue z s (grid f a c) (2 ^ low f)) (sym (round_is f s a c))
      (units_val f s (kept (prec f) (a * 2 ^ low f) c) (drop (prec f) (a * 2 ^ low f) c)
      (lt_of_le_of_lt (kept_upto (prec f) (a * 2 ^ low f) c (two f) C k h) (pow-lt F)))

  -- a number of value a / c, with the denominators multiplied out
  value_num : (x : Float) (s : Bool) (a c : ℕ) → HasValue x s a c → num x * c ≡ a * den x
  value_num nan s a c h = absurd h
  value_num (inf t) s a c h = absurd h
  value_num (fin t m e) s a c h = h.1

  -- a number that has a value is finite
  value_finite : (x : Float) (s : Bool) (a c : ℕ) → HasValue x s a c → T (finite x)
  value_finite nan s a c h = absurd h
  value_finite (inf t) s a c h = absurd h
  value_finite (fin t m e) s a c h = tt

  -- a number that has a value and no minus sign is finite and not negative
  pub value_plain : (x : Float) (a c : ℕ) → HasValue x false a c → T (plain x)
  value_plain nan a c h = absurd h
  value_plain (inf t) a c h = absurd h
  value_plain (fin true m e) a c h = absurd (true≢false h.0)
  value_plain (fin false m e) a c h = tt

  module _ (a c k : ℕ) (C : 0 < c) (h : a * 2 ^ low f ≤ 2 ^ k * c) (F : Fits f k) where
    -- `round` keeps a bound of the magnitude
    pub round_within : (s : Bool) → Within f k (round f s a c)
    round_within s =
        let v = round_value s a c k C h F in
        let x = round f s a c in
        record {
          is_finite = value_finite x s (grid f a c) (2 ^ low f) v;
          small = le_trans (le_of_eq (value_num x s (grid f a c) (2 ^ low f) v)) (mul-le-mul_right (den x) (kept_upto (prec f) (a * 2 ^ low f) c (two f) C k h));
        }

    -- `round` keeps a bound of a number that is not negative
    pub round_upto : Upto f k (round f false a c)
    round_upto =
        record {
          is_plain = value_plain (round f false a c) (grid f a c) (2 ^ low f) (round_value false a c k C h F);
          small = (round_within false).small;
        }

    -- `round` keeps a bound from below
    pub round_from : (s : Bool) (j : ℕ) → 2 ^ j * c ≤ a * 2 ^ low f → AtLeast f j (round f s a c)
    round_from s j g =
        let v = round_value s a c k C h F in
        let x = round f s a c in
        record {
          large = le_trans (mul-le-mul_right (den x) (kept_from (prec f) (a * 2 ^ low f) c (two f) C j g)) (le_of_eq (sym (value_num x s (grid f a c) (2 ^ low f) v)));
        }
