-- Bounds of sums, products and quotients of fractions X / de and Y / dd, over whole numbers. Values are counted in units of 1 / L. Assumes nothing.
use mathlib.Core.Path.{◌≡◌, sym}
use Prim.Native.Nat.{ℕ, suc, ◌+◌, ◌*◌, ◌^◌, ◌≤◌, ◌<◌}
use native.Mathlib.Nat.{le_trans, le_of_eq, mul_right_comm, mul-le-mul, mul-le-mul_right, le_of_mul-le-mul_right, mul-mul-mul_comm, pow-suc}
use native.Mathlib.Omega.{arith}
use lib.Pow.{pow-add, pow_mono}

-- products of powers of two, by their exponents
pub pow_le : (i j k l : ℕ) → i + j ≤ k + l → 2 ^ i * 2 ^ j ≤ 2 ^ k * 2 ^ l
pow_le i j k l h = le_trans (le_of_eq (sym (pow-add 2 i j))) (le_trans (pow_mono h) (le_of_eq (pow-add 2 k l)))

-- a sum of two fractions, each at most K
add_bound : (X Y L K de dd : ℕ) → X * L ≤ K * de → Y * L ≤ K * dd → (X * dd + Y * de) * L ≤ K * 2 * (de * dd)
add_bound X Y L K de dd h g =
    let p : X * L * dd ≤ K * de * dd = mul-le-mul_right dd h in
    let q : Y * L * de ≤ K * dd * de = mul-le-mul_right de g in
    omega arith

-- the same, K a power of two: the sum is at most the next one
pub add_pow : (X Y L k de dd : ℕ) → X * L ≤ 2 ^ k * de → Y * L ≤ 2 ^ k * dd → (X * dd + Y * de) * L ≤ 2 ^ suc k * (de * dd)
add_pow X Y L k de dd h g = rw (pow-suc 2 k) (add_bound X Y L (2 ^ k) de dd h g)

-- a product of two fractions, at most I and J
pub mul_bound : (X Y L I J K de dd : ℕ) → 0 < L → X * L ≤ I * de → Y * L ≤ J * dd → I * J ≤ K * L → X * Y * L ≤ K * (de * dd)
mul_bound X Y L I J K de dd l h g k =
    le_of_mul-le-mul_right
    (le_trans (le_of_eq (one X Y L))
    (le_trans (mul-le-mul h g)
    (le_trans (le_of_eq (mul-mul-mul_comm I de J dd))
    (le_trans (mul-le-mul_right (de * dd) k) (le_of_eq (mul_right_comm K L (de * dd)))))))
    l
  where
    one : (X Y L : ℕ) → X * Y * L * L ≡ X * L * (Y * L)
    one X Y L = omega arith

-- a product of two fractions, at least I and J
pub mul_bound_from : (X Y L I J K de dd : ℕ) → 0 < L → I * de ≤ X * L → J * dd ≤ Y * L → K * L ≤ I * J → K * (de * dd) ≤ X * Y * L
mul_bound_from X Y L I J K de dd l h g k =
    le_of_mul-le-mul_right
    (le_trans (le_of_eq (mul_right_comm K (de * dd) L))
    (le_trans (mul-le-mul_right (de * dd) k)
    (le_trans (le_of_eq (sym (mul-mul-mul_comm I de J dd)))
    (le_trans (mul-le-mul h g) (le_of_eq (one X Y L))))))
    l
  where
    one : (X Y L : ℕ) → X * L * (Y * L) ≡ X * Y * L * L
    one X Y L = omega arith

-- a quotient of two fractions, the one at most I and the other at least J
pub div_bound : (X Y L I J K de dd : ℕ) → 0 < J → X * L ≤ I * de → J * dd ≤ Y * L → I * L ≤ K * J → X * dd * L ≤ K * (Y * de)
div_bound X Y L I J K de dd j h g k =
    le_of_mul-le-mul_right
    (le_trans (le_of_eq (one X L J dd))
    (le_trans (mul-le-mul h g)
    (le_trans (le_of_eq (two I de Y L))
    (le_trans (mul-le-mul_right (Y * de) k) (le_of_eq (mul_right_comm K J (Y * de)))))))
    j
  where
    one : (X L J dd : ℕ) → X * dd * L * J ≡ X * L * (J * dd)
    one X L J dd = omega arith

    two : (I de Y L : ℕ) → I * de * (Y * L) ≡ I * L * (Y * de)
    two I de Y L = omega arith
