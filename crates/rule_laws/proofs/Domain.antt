-- Points in the domain: differences, cross products and norms of points whose coordinates are bounded. Exponents count the smallest f64, 2^-1074, so
-- that 1074 stands for 1 and 1174 for 2^100. Assumes nothing.
use mathlib.Core.Path.{◌≡◌, sym}
use mathlib.Core.Bool.{Bool, true, false, ◌&&◌, ◌||◌}
use Prim.Native.Nat.{ℕ, suc, ◌+◌, ◌*◌, ◌^◌, ◌≤◌, ◌<◌}
use native.Mathlib.Nat.{le_of_eq, le_of_lt, mul-le-mul_right}
use native.Mathlib.Omega.{arith}
use lib.Dec.{T, ltb, eqb, lit<, lit≤, ltb→lt, eqb→eq}
use lib.IntN.{pos}
use lib.Ieee.{Float, nan, inf, fin, binary64, up, down, le, fits}
use lib.Ieee.Fits.{add-fits, and_l, and_r}
use Rattle.rules.specs.Mesh.{Point}
use Rattle.rules.specs.Refusal.{in_domain}
use Rattle.rules.specs.Float.{◌⊕◌, ◌⊗◌, difference, cross, norm², norm}
use Rattle.rule_laws.proofs.Bounds.{Within, Upto, AtLeast, Fits, upto_more}
use Rattle.rule_laws.proofs.FloatSteps.{add_upto, sub_within, mul_within, square_upto, square_from, add_from, add_from_right}
use Rattle.rule_laws.proofs.RootStep.{root_upto}

-- ---- one coordinate

-- the comparison `le` of two numbers that are not negative
pub le_num : (a b : ℕ) (c : Bool) → T (ltb a b || (eqb a b && c)) → a ≤ b
le_num a b c t = go (ltb a b) (eqb a b) (ltb→lt a b) (eqb→eq a b) t
  where
    go : (x y : Bool) → (T x → a < b) → (T y → a ≡ b) → T (x || (y && c)) → a ≤ b
    go true y l e t = le_of_lt (l tt)
    go false true l e t = le_of_eq (e tt)
    go false false l e t = absurd t

-- the same of two that are negative
ge_num : (a b : ℕ) (c : Bool) → T (ltb b a || (eqb a b && c)) → b ≤ a
ge_num a b c t = go (ltb b a) (eqb a b) (ltb→lt b a) (eqb→eq a b) t
  where
    go : (x y : Bool) → (T x → b < a) → (T y → a ≡ b) → T (x || (y && c)) → b ≤ a
    go true y l e t = le_of_lt (l tt)
    go false true l e t = le_of_eq (sym (e tt))
    go false false l e t = absurd t

-- a bound, counted in smaller units
pub scale : (a d L H : ℕ) → a * 1 ≤ 1 * H * d → a * L ≤ H * L * d
scale a d L H h =
    let g : a * 1 * L ≤ 1 * H * d * L = mul-le-mul_right L h in
    omega arith

-- -2^100
abbrev low_end : Float
low_end = fin true 1 (pos 100)

-- 2^100
abbrev high_end : Float
high_end = fin false 1 (pos 100)

-- a coordinate in the domain is at most 2^100 in magnitude
pub domain_within : (x : Float) → T (in_domain x) → Within binary64 1174 x
unfolding in_domain le
domain_within nan t = absurd t
domain_within (inf true) t = absurd t
domain_within (inf false) t = absurd t
domain_within (fin false m e) t =
    record { is_finite = tt; small = scale (m * up e) (down e) (2 ^ 1074) (2 ^ 100) (le_num (m * up e * 1) (1 * 2 ^ 100 * down e) true (and_r (le low_end (fin false m e)) (le (fin false m e) high_end) t)) }
domain_within (fin true m e) t =
    record { is_finite = tt; small = scale (m * up e) (down e) (2 ^ 1074) (2 ^ 100) (ge_num (1 * 2 ^ 100 * down e) (m * up e * 1) true (and_l (le low_end (fin true m e)) (le (fin true m e) high_end) t)) }

-- ---- points and norms

-- each coordinate is at most 2 ^ k smallest values in magnitude
pub record Near (k : ℕ) (p : Point) : Type 0 where
  pub x : Within binary64 k p.x
  pub y : Within binary64 k p.y
  pub z : Within binary64 k p.z

-- a difference of two such points
pub difference_near : {k : ℕ} (p q : Point) → Near k p → Near k q → Fits binary64 (suc k) → Near (suc k) (difference p q)
unfolding difference
difference_near p q a b F = record { x = sub_within a.x b.x F; y = sub_within a.y b.y F; z = sub_within a.z b.z F }

-- a cross product of two such points
pub cross_near : {i : ℕ} (p q : Point) → Near i p → Near i q → (k : ℕ) → i + i ≤ k + 1074 → Fits binary64 k → Fits binary64 (suc k) → Near (suc k) (cross p q)
unfolding cross
cross_near p q a b k h F G =
    record {
      x = sub_within (mul_within a.y b.z k h F) (mul_within a.z b.y k h F) G;
      y = sub_within (mul_within a.z b.x k h F) (mul_within a.x b.z k h F) G;
      z = sub_within (mul_within a.x b.y k h F) (mul_within a.y b.x k h F) G;
    }

module _ {i : ℕ} (v : Point) (a : Near i v) (k : ℕ) (h : i + i ≤ k + 1074) (F : Fits binary64 (suc (suc k))) where
  -- the square of x
  xx : Upto binary64 k (v.x ⊗ v.x)
  xx = square_upto a.x k h (omega arith)

  -- the square of y
  yy : Upto binary64 k (v.y ⊗ v.y)
  yy = square_upto a.y k h (omega arith)

  -- the square of z
  zz : Upto binary64 (suc k) (v.z ⊗ v.z)
  zz = upto_more (suc k) (omega arith) (square_upto a.z k h (omega arith))

  -- the sum of the first two squares
  xy : Upto binary64 (suc k) (v.x ⊗ v.x ⊕ v.y ⊗ v.y)
  xy = add_upto xx yy (omega arith)

  -- the squared norm
  pub norm²_upto : Upto binary64 (suc (suc k)) (norm² v)
  unfolding norm²
  norm²_upto = add_upto xy zz F

  -- a bound from below of a component is one of the squared norm
  module _ {j : ℕ} (l : ℕ) (r : l + 1074 ≤ j + j) where
    -- from x
    pub norm²_x : AtLeast binary64 j v.x → AtLeast binary64 l (norm² v)
    unfolding norm²
    norm²_x g = add_from xy zz F (add_from xx yy (omega arith) (square_from a.x k h (omega arith) g l r))

    -- from y
    pub norm²_y : AtLeast binary64 j v.y → AtLeast binary64 l (norm² v)
    unfolding norm²
    norm²_y g = add_from xy zz F (add_from_right xx yy (omega arith) (square_from a.y k h (omega arith) g l r))

    -- from z
    pub norm²_z : AtLeast binary64 j v.z → AtLeast binary64 l (norm² v)
    unfolding norm²
    norm²_z g = add_from_right xy zz F (square_from a.z k h (omega arith) g l r)

-- a squared norm is an f64
norm²_fits : (v : Point) → T (fits binary64 (norm² v))
unfolding norm²
norm²_fits v = add-fits binary64 (v.x ⊗ v.x ⊕ v.y ⊗ v.y) (v.z ⊗ v.z)

-- the norm
pub norm_upto : {i : ℕ} (v : Point) → Near i v → (k : ℕ) → i + i ≤ k + 1074 → Fits binary64 (suc (suc k)) → (n : ℕ) → suc (suc k) + 1074 ≤ n + n → Fits binary64 n → Upto binary64 n (norm v)
unfolding norm
norm_upto v a k h F n g G = root_upto (norm²_fits v) (norm²_upto v a k h F) n g G

-- the distance of two points in the domain is at most 2^102
pub difference_norm : (p q : Point) → Near 1174 p → Near 1174 q → Upto binary64 1176 (norm (difference p q))
difference_norm p q a b = norm_upto (difference p q) (difference_near p q a b (lit< tt)) 1276 (lit≤ tt) (lit< tt) 1176 (lit≤ tt) (lit< tt)
