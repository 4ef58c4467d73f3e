-- One rule for each operation on the bounds of proofs/Bounds.antt: sums, differences, products, squares and quotients. Assumes nothing.
use mathlib.Core.Path.{◌≡◌}
use mathlib.Core.Bool.{Bool, true, false, ◌&&◌, cond, beq}
use Prim.Native.Nat.{ℕ, suc, ◌+◌, ◌-◌, ◌*◌, ◌^◌, ◌≤◌, ◌<◌}
use native.Mathlib.Nat.{le_trans, lt_of_lt_of_le, mul-pos, mul-le-mul_right}
use native.Mathlib.Omega.{arith}
use borrow.Author.Tests.{ne_eqb}
use lib.Dec.{T, ltb}
use lib.Pow.{pow_pos}
use lib.Ieee.{Float, nan, inf, fin, Format, low, up, down, unlike, round, neg, sum, add, sub, mul, div}
use lib.Ieee.Fits.{down_pos}
use lib.Ieee.Positive.{first_pos}
use Rattle.root.specs.Nearest.{plain}
use Rattle.rule_laws.proofs.Bounds.{Within, Upto, AtLeast, Fits, round_within, round_upto, round_from}
use Rattle.rule_laws.proofs.Fractions.{pow_le, add_pow, mul_bound, mul_bound_from, div_bound}

module _ {f : Format} where
  -- ---- sums and differences

  -- a sum of signed fractions is at most the sum of the magnitudes
  sum_within : (s : Bool) (a : ℕ) (t : Bool) (b c k : ℕ) → 0 < c → (a + b) * 2 ^ low f ≤ 2 ^ k * c → Fits f k → Within f k (sum f s a t b c)
  unfolding sum
  sum_within s a t b c k C h F = go (beq s t) (ltb a b) (s && ltb b a)
    where
      less : (x : ℕ) → x ≤ a + b → x * 2 ^ low f ≤ 2 ^ k * c
      less x l = le_trans (mul-le-mul_right (2 ^ low f) l) h

      go : (x y r : Bool) → Within f k (cond x (round f s (a + b) c) (cond y (round f t (b - a) c) (round f r (a - b) c)))
      go true y r = round_within f (a + b) c k C h F s
      go false true r = round_within f (b - a) c k C (less (b - a) (omega arith)) F t
      go false false r = round_within f (a - b) c k C (less (a - b) (omega arith)) F r

  -- a sum of two numbers of at most 2 ^ k
  pub add_within : {k : ℕ} {x y : Float} → Within f k x → Within f k y → Fits f (suc k) → Within f (suc k) (add f x y)
  unfolding add
  add_within {k = k} {x = nan} {y = y} p q F = absurd p.is_finite
  add_within {k = k} {x = inf s} {y = y} p q F = absurd p.is_finite
  add_within {k = k} {x = fin s m e} {y = nan} p q F = absurd q.is_finite
  add_within {k = k} {x = fin s m e} {y = inf t} p q F = absurd q.is_finite
  add_within {k = k} {x = fin s m e} {y = fin t n d} p q F =
      sum_within s (m * up e * down d) t (n * up d * down e) (down e * down d) (suc k) (mul-pos (down_pos e) (down_pos d))
      (add_pow (m * up e) (n * up d) (2 ^ low f) k (down e) (down d) p.small q.small) F

  -- the number with the other sign has the same magnitude
  neg_within : {k : ℕ} {x : Float} → Within f k x → Within f k (neg x)
  unfolding neg
  neg_within {k = k} {x = nan} p = absurd p.is_finite
  neg_within {k = k} {x = inf s} p = absurd p.is_finite
  neg_within {k = k} {x = fin s m e} p = record { is_finite = tt; small = p.small }

  -- a difference of two numbers of at most 2 ^ k
  pub sub_within : {k : ℕ} {x y : Float} → Within f k x → Within f k y → Fits f (suc k) → Within f (suc k) (sub f x y)
  unfolding sub
  sub_within p q F = add_within p (neg_within q) F

  -- a sum of two that are not negative
  pub add_upto : {k : ℕ} {x y : Float} → Upto f k x → Upto f k y → Fits f (suc k) → Upto f (suc k) (add f x y)
  unfolding add
  add_upto {k = k} {x = nan} {y = y} p q F = absurd p.is_plain
  add_upto {k = k} {x = inf s} {y = y} p q F = absurd p.is_plain
  add_upto {k = k} {x = fin true m e} {y = y} p q F = absurd p.is_plain
  add_upto {k = k} {x = fin false m e} {y = nan} p q F = absurd q.is_plain
  add_upto {k = k} {x = fin false m e} {y = inf t} p q F = absurd q.is_plain
  add_upto {k = k} {x = fin false m e} {y = fin true n d} p q F = absurd q.is_plain
  add_upto {k = k} {x = fin false m e} {y = fin false n d} p q F =
      round_upto f (m * up e * down d + n * up d * down e) (down e * down d) (suc k) (mul-pos (down_pos e) (down_pos d))
      (add_pow (m * up e) (n * up d) (2 ^ low f) k (down e) (down d) p.small q.small) F

  -- a sum is no smaller than either
  module _ {k : ℕ} {x y : Float} (p : Upto f k x) (q : Upto f k y) (F : Fits f (suc k)) where
    -- from the first
    pub add_from : {j : ℕ} → AtLeast f j x → AtLeast f j (add f x y)
    unfolding add
    add_from {j} g = go x y p q g
      where
        go : (x y : Float) → Upto f k x → Upto f k y → AtLeast f j x → AtLeast f j (add f x y)
        go nan y p q g = absurd p.is_plain
        go (inf s) y p q g = absurd p.is_plain
        go (fin true m e) y p q g = absurd p.is_plain
        go (fin false m e) nan p q g = absurd q.is_plain
        go (fin false m e) (inf t) p q g = absurd q.is_plain
        go (fin false m e) (fin true n d) p q g = absurd q.is_plain
        go (fin false m e) (fin false n d) p q g =
            round_from f (m * up e * down d + n * up d * down e) (down e * down d) (suc k) (mul-pos (down_pos e) (down_pos d))
            (add_pow (m * up e) (n * up d) (2 ^ low f) k (down e) (down d) p.small q.small) F false j
            (grows (m * up e) (n * up d) (2 ^ low f) (2 ^ j) (down e) (down d) g.large)
          where
            grows : (X Y L J de dd : ℕ) → J * de ≤ X * L → J * (de * dd) ≤ (X * dd + Y * de) * L
            grows X Y L J de dd h = let a : J * de * dd ≤ X * L * dd = mul-le-mul_right dd h in omega arith

    -- from the second
    pub add_from_right : {j : ℕ} → AtLeast f j y → AtLeast f j (add f x y)
    unfolding add
    add_from_right {j} g = go x y p q g
      where
        go : (x y : Float) → Upto f k x → Upto f k y → AtLeast f j y → AtLeast f j (add f x y)
        go nan y p q g = absurd p.is_plain
        go (inf s) y p q g = absurd p.is_plain
        go (fin true m e) y p q g = absurd p.is_plain
        go (fin false m e) nan p q g = absurd q.is_plain
        go (fin false m e) (inf t) p q g = absurd q.is_plain
        go (fin false m e) (fin true n d) p q g = absurd q.is_plain
        go (fin false m e) (fin false n d) p q g =
            round_from f (m * up e * down d + n * up d * down e) (down e * down d) (suc k) (mul-pos (down_pos e) (down_pos d))
            (add_pow (m * up e) (n * up d) (2 ^ low f) k (down e) (down d) p.small q.small) F false j
            (grows (m * up e) (n * up d) (2 ^ low f) (2 ^ j) (down e) (down d) g.large)
          where
            grows : (X Y L J de dd : ℕ) → J * dd ≤ Y * L → J * (de * dd) ≤ (X * dd + Y * de) * L
            grows X Y L J de dd h = let a : J * dd * de ≤ Y * L * de = mul-le-mul_right de h in omega arith

  -- ---- products

  -- a product: exponents add, less that of 1
  pub mul_within : {i j : ℕ} {x y : Float} → Within f i x → Within f j y → (k : ℕ) → i + j ≤ k + low f → Fits f k → Within f k (mul f x y)
  unfolding mul
  mul_within {i = i} {j = j} {x = nan} {y = y} p q k h F = absurd p.is_finite
  mul_within {i = i} {j = j} {x = inf s} {y = y} p q k h F = absurd p.is_finite
  mul_within {i = i} {j = j} {x = fin s m e} {y = nan} p q k h F = absurd q.is_finite
  mul_within {i = i} {j = j} {x = fin s m e} {y = inf t} p q k h F = absurd q.is_finite
  mul_within {i = i} {j = j} {x = fin s m e} {y = fin t n d} p q k h F =
      round_within f (m * up e * (n * up d)) (down e * down d) k (mul-pos (down_pos e) (down_pos d))
      (mul_bound (m * up e) (n * up d) (2 ^ low f) (2 ^ i) (2 ^ j) (2 ^ k) (down e) (down d) (pow_pos (low f)) p.small q.small (pow_le i j k (low f) h)) F (unlike s t)

  -- a product of two that are not negative
  pub mul_upto : {i j : ℕ} {x y : Float} → Upto f i x → Upto f j y → (k : ℕ) → i + j ≤ k + low f → Fits f k → Upto f k (mul f x y)
  unfolding mul
  mul_upto {i = i} {j = j} {x = nan} {y = y} p q k h F = absurd p.is_plain
  mul_upto {i = i} {j = j} {x = inf s} {y = y} p q k h F = absurd p.is_plain
  mul_upto {i = i} {j = j} {x = fin true m e} {y = y} p q k h F = absurd p.is_plain
  mul_upto {i = i} {j = j} {x = fin false m e} {y = nan} p q k h F = absurd q.is_plain
  mul_upto {i = i} {j = j} {x = fin false m e} {y = inf t} p q k h F = absurd q.is_plain
  mul_upto {i = i} {j = j} {x = fin false m e} {y = fin true n d} p q k h F = absurd q.is_plain
  mul_upto {i = i} {j = j} {x = fin false m e} {y = fin false n d} p q k h F =
      round_upto f (m * up e * (n * up d)) (down e * down d) k (mul-pos (down_pos e) (down_pos d))
      (mul_bound (m * up e) (n * up d) (2 ^ low f) (2 ^ i) (2 ^ j) (2 ^ k) (down e) (down d) (pow_pos (low f)) p.small q.small (pow_le i j k (low f) h)) F

  -- a square is not negative, whatever the sign
  pub square_upto : {i : ℕ} {x : Float} → Within f i x → (k : ℕ) → i + i ≤ k + low f → Fits f k → Upto f k (mul f x x)
  unfolding mul
  square_upto {i = i} {x = nan} p k h F = absurd p.is_finite
  square_upto {i = i} {x = inf s} p k h F = absurd p.is_finite
  square_upto {i = i} {x = fin true m e} p k h F =
      round_upto f (m * up e * (m * up e)) (down e * down e) k (mul-pos (down_pos e) (down_pos e))
      (mul_bound (m * up e) (m * up e) (2 ^ low f) (2 ^ i) (2 ^ i) (2 ^ k) (down e) (down e) (pow_pos (low f)) p.small p.small (pow_le i i k (low f) h)) F
  square_upto {i = i} {x = fin false m e} p k h F =
      round_upto f (m * up e * (m * up e)) (down e * down e) k (mul-pos (down_pos e) (down_pos e))
      (mul_bound (m * up e) (m * up e) (2 ^ low f) (2 ^ i) (2 ^ i) (2 ^ k) (down e) (down e) (pow_pos (low f)) p.small p.small (pow_le i i k (low f) h)) F

  -- a square, bounded from below
  pub square_from : {i j : ℕ} {x : Float} → Within f i x → (k : ℕ) → i + i ≤ k + low f → Fits f k → AtLeast f j x → (l : ℕ) → l + low f ≤ j + j → AtLeast f l (mul f x x)
  unfolding mul
  square_from {i = i} {j = j} {x = nan} p k h F g l r = absurd p.is_finite
  square_from {i = i} {j = j} {x = inf s} p k h F g l r = absurd p.is_finite
  square_from {i = i} {j = j} {x = fin s m e} p k h F g l r =
      round_from f (m * up e * (m * up e)) (down e * down e) k (mul-pos (down_pos e) (down_pos e))
      (mul_bound (m * up e) (m * up e) (2 ^ low f) (2 ^ i) (2 ^ i) (2 ^ k) (down e) (down e) (pow_pos (low f)) p.small p.small (pow_le i i k (low f) h)) F (unlike s s) l
      (mul_bound_from (m * up e) (m * up e) (2 ^ low f) (2 ^ j) (2 ^ j) (2 ^ l) (down e) (down e) (pow_pos (low f)) g.large g.large (pow_le l (low f) j j r))

  -- ---- quotients

  -- a quotient: exponents subtract
  pub div_upto : {i j : ℕ} {x y : Float} → Upto f i x → T (plain y) → AtLeast f j y → (k : ℕ) → i + low f ≤ k + j → Fits f k → Upto f k (div f x y)
  unfolding div
  div_upto {i = i} {j = j} {x = nan} {y = y} p q g k h F = absurd p.is_plain
  div_upto {i = i} {j = j} {x = inf s} {y = y} p q g k h F = absurd p.is_plain
  div_upto {i = i} {j = j} {x = fin true m e} {y = y} p q g k h F = absurd p.is_plain
  div_upto {i = i} {j = j} {x = fin false m e} {y = nan} p q g k h F = absurd q
  div_upto {i = i} {j = j} {x = fin false m e} {y = inf t} p q g k h F = absurd q
  div_upto {i = i} {j = j} {x = fin false m e} {y = fin true n d} p q g k h F = absurd q
  div_upto {i = i} {j = j} {x = fin false m e} {y = fin false n d} p q g k h F =
      let Y : 0 < n * up d = first_pos (n * up d) (2 ^ low f) (lt_of_lt_of_le (mul-pos (pow_pos j) (down_pos d)) g.large) in
      let z : 0 < n = first_pos n (up d) Y in
      rw (ne_eqb n 0 (λ (e : n ≡ 0). omega arith))
      (round_upto f (m * up e * down d) (n * up d * down e) k (mul-pos Y (down_pos e))
      (div_bound (m * up e) (n * up d) (2 ^ low f) (2 ^ i) (2 ^ j) (2 ^ k) (down e) (down d) (pow_pos j) p.small g.large (pow_le i (low f) k j h)) F)
