-- Roots and products keep bounds by powers of two, so four exponents decide the degeneracy test where their room is enough. Assumes nothing.
use mathlib.Core.Path.{◌≡◌, sym, ◌∙◌, subst}
use mathlib.Core.Bool.{true, false, true≢false}
use Prim.Native.Nat.{ℕ, ◌+◌, ◌-◌, ◌*◌, ◌/◌, ◌^◌, ◌≤◌, ◌<◌}
use native.Mathlib.Nat.{le_trans, le_of_eq, not-le_of_lt, mul_assoc, mul_right_comm, mul-le-mul_right, mul-lt-mul_of_pos_right, mul-pos}
use native.Mathlib.Omega.{arith}
use lib.Dec.{T, not_T}
use lib.Pow.{pow-lt}
use lib.Ieee.{Float, nan, inf, fin, binary64, up, down, le, fits}
use lib.Ieee.Bits.{is_false}
use lib.Ieee.Fits.{down_pos}
use Rattle.root.specs.Root.{root_of}
use Rattle.root.specs.Nearest.{plain}
use Rattle.rules.specs.Float.{◌⊗◌}
use Rattle.rule_laws.proofs.Bounds.{Upto, AtLeast}
use Rattle.rule_laws.proofs.FloatSteps.{mul_upto}
use Rattle.rule_laws.proofs.RootStep.{root_upto, root_from}
use Rattle.rule_laws.proofs.Domain.{le_num}
use Rattle.exponents.specs.Exponent.{exponent_of}
use Rattle.exponents.proofs.Bounded.{exponent_upto, exponent_from}

-- ---- two numbers

-- u is at most I units of 1 / L, and v at least J, which is more: v is not at most u
apart : (nu du nv dv L I J : ℕ) → 0 < du → 0 < dv → nu * L ≤ I * du → J * dv ≤ nv * L → I < J → nv * du ≤ nu * dv → ⊥
apart nu du nv dv L I J p q h g k b =
    not-le_of_lt (mul-lt-mul_of_pos_right k (mul-pos p q))
    (le_trans (le_of_eq (sym (mul_assoc J du dv) ∙ mul_right_comm J du dv))
    (le_trans (mul-le-mul_right du g)
    (le_trans (le_of_eq (mul_right_comm nv L du))
    (le_trans (mul-le-mul_right L b) (le_trans (le_of_eq (mul_right_comm nu dv L)) (le_trans (mul-le-mul_right dv h) (le_of_eq (mul_assoc I du dv))))))))

-- a number of at least 2 ^ j is not at most one of at most 2 ^ i, for i below j
not_le : {i j : ℕ} (u v : Float) → Upto binary64 i u → T (plain v) → AtLeast binary64 j v → i < j → le v u ≡ false
unfolding le
not_le nan v p q g h = absurd p.is_plain
not_le (inf s) v p q g h = absurd p.is_plain
not_le (fin true n d) v p q g h = absurd p.is_plain
not_le (fin false n d) nan p q g h = absurd q
not_le (fin false n d) (inf s) p q g h = absurd q
not_le (fin false n d) (fin true m e) p q g h = absurd q
not_le {i} {j} (fin false n d) (fin false m e) p q g h =
    is_false (le (fin false m e) (fin false n d))
    (not_T (le (fin false m e) (fin false n d))
    (λ t. apart (n * up d) (down d) (m * up e) (down e) (2 ^ 1074) (2 ^ i) (2 ^ j) (down_pos d) (down_pos e) p.small g.large (pow-lt h)
    (le_num (m * up e * down d) (n * up d * down e) true t)))

-- ---- the test

-- the exponents' room: s is below 2, a and b are finite, c is finite and not subnormal, and c's exponent is above the others' sum
pub record Room (s a b c : ℕ) : Type 0 where
  pub unit : s < 1024
  pub a_finite : a < 2047
  pub b_finite : b < 2047
  pub c_normal : 0 < c
  pub c_finite : c < 2047
  pub wide : 2 * s + a + b < c + 3062

-- with that room the test does not hold
pub decided :
    (s a b c : Float) → T (fits binary64 s) → T (fits binary64 a) → T (fits binary64 b) → T (fits binary64 c)
    → Room (exponent_of s) (exponent_of a) (exponent_of b) (exponent_of c) → le (root_of c) (s ⊗ root_of a ⊗ root_of b) ≡ false
decided s a b c fs fa fb fc r =
    go (exponent_of s) (exponent_of a) (exponent_of b) (exponent_of c) r (exponent_upto s fs (omega (arith, r))) (exponent_upto a fa r.a_finite) (exponent_upto b fb r.b_finite)
    (exponent_upto c fc r.c_finite) (exponent_from c fc r.c_finite r.c_normal)
  where
    go : (S A B C : ℕ) → Room S A B C → Upto binary64 (S + 52) s → Upto binary64 (A + 52) a → Upto binary64 (B + 52) b → Upto binary64 (C + 52) c → AtLeast binary64 (C + 51) c
        → le (root_of c) (s ⊗ root_of a ⊗ root_of b) ≡ false
    go S A B C r us ua ub uc lc =
        let i : ℕ = (A + 1127) / 2 in
        let j : ℕ = (B + 1127) / 2 in
        let k : ℕ = S + 52 + i - 1074 in
        let l : ℕ = k + j - 1074 in
        let y : ℕ = (C + 1125) / 2 in
        let ra = root_upto fa ua i (omega arith) (omega arith) in
        let rb = root_upto fb ub j (omega arith) (omega arith) in
        let rc = root_from fc uc.is_plain lc y (omega arith) (omega arith) in
        not_le (s ⊗ root_of a ⊗ root_of b) (root_of c) (mul_upto (mul_upto us ra k (omega arith) (omega arith)) rb l (omega arith) (omega arith)) (root_upto fc uc ((C + 1127) / 2) (omega arith) (omega arith)).is_plain rc (omega arith)

-- what owning an `f64` tells: the format holds it
held : (x : Float) → fits binary64 x ≡ true → T (fits binary64 x)
held x e = subst T (sym e) tt

-- the same, of exponents as the code has them
pub sure :
    (s a b c : Float) {t x y z : ℕ} → fits binary64 s ≡ true → fits binary64 a ≡ true → fits binary64 b ≡ true → fits binary64 c ≡ true
    → t ≡ exponent_of s → x ≡ exponent_of a → y ≡ exponent_of b → z ≡ exponent_of c → Room t x y z → le (root_of c) (s ⊗ root_of a ⊗ root_of b) ≡ false
sure s a b c fs fa fb fc et ex ey ez r = decided s a b c (held s fs) (held a fa) (held b fb) (held c fc) (rw (← et, ← ex, ← ey, ← ez) r)

-- where the code says nothing, nothing is to be shown
pub silent : {X : Type 0} → false ≡ true → X
silent e = absurd (true≢false (sym e))
