-- Of points that number 4 does not refuse and a threshold that number 3 does not refuse, both sides of the degeneracy test are finite numbers: the test
-- never compares a NaN or an infinity. Assumes nothing.
use mathlib.Core.Path.{◌≡◌}
use mathlib.Core.Bool.{true, false, ◌&&◌}
use mathlib.Core.List.{List}
use Prim.Native.Nat.{ℕ, ◌*◌, ◌^◌, ◌≤◌}
use native.Mathlib.Omega.{arith}
use lib.Dec.{T, eqb, lit<, lit≤, eqb→eq}
use lib.Ieee.{Float, nan, inf, fin, binary64, up, down, le}
use lib.Ieee.Fits.{and_l, and_r}
use Rattle.rules.specs.Mesh.{Point, Face, point, zero64}
use Rattle.rules.specs.Float.{◌⊗◌, one64, difference, cross, norm}
use Rattle.rules.specs.Refusal.{ok, no3_threshold, no4}
use Rattle.rule_laws.proofs.Decided.{unless_ok}
use Rattle.rule_laws.proofs.Bounds.{Within, Upto, upto_within}
use Rattle.rule_laws.proofs.FloatSteps.{mul_within}
use Rattle.rule_laws.proofs.Domain.{le_num, scale, difference_near, difference_norm, cross_near, norm_upto}
use Rattle.rule_laws.proofs.Finite.{point_near}

-- a number that equals 0 is at most anything
nought : (d a L b : ℕ) → 0 * 1 * d ≡ a * 1 → a * L ≤ b
nought d a L b h =
    let z : a ≡ 0 = omega arith in
    rw z (omega arith)

-- a number from 0 to 1, -0 included, is at most 1 in magnitude
unit_within : (s : Float) → T (le zero64 s && le s one64) → Within binary64 1074 s
unfolding le
unit_within nan t = absurd t
unit_within (inf true) t = absurd t
unit_within (inf false) t = absurd t
unit_within (fin false m e) t =
    record {
      is_finite = tt;
      small = scale (m * up e) (down e) (2 ^ 1074) 1 (le_num (m * up e * 1) (1 * 1 * down e) true (and_r (le zero64 (fin false m e)) (le (fin false m e) one64) t));
    }
unit_within (fin true m e) t =
    record {
      is_finite = tt;
      small = nought (down e) (m * up e) (2 ^ 1074) (2 ^ 1074 * down e)
          (eqb→eq (0 * 1 * down e) (m * up e * 1) (and_l (eqb (0 * 1 * down e) (m * up e * 1)) (eqb (0 * 1 * down e) 0) (and_l (le zero64 (fin true m e)) (le (fin true m e) one64) t)));
    }

-- the two sides of the degeneracy test at three points are at most 2^204
pub record Sides (s : Float) (p0 p1 p2 : Point) : Type 0 where
  pub left : Upto binary64 1278 (norm (cross (difference p1 p0) (difference p2 p0)))
  pub right : Within binary64 1278 (s ⊗ norm (difference p1 p0) ⊗ norm (difference p2 p0))

module _ (ps : List Point) (fine : no4 ps ≡ ok) (s : Float) (set : no3_threshold s ≡ ok) where
  -- the threshold is at most 1 in magnitude
  threshold_within : Within binary64 1074 s
  unfolding no3_threshold
  threshold_within = unit_within s (unless_ok 3 0 (le zero64 s && le s one64) set)

  -- both sides, for any face
  pub sides_bounded : (f : Face) → Sides s (point ps f.a) (point ps f.b) (point ps f.c)
  sides_bounded f =
      let a = point_near ps fine f.a in
      let b = point_near ps fine f.b in
      let c = point_near ps fine f.c in
      let e1 = difference_near (point ps f.b) (point ps f.a) b a (lit< tt) in
      let e2 = difference_near (point ps f.c) (point ps f.a) c a (lit< tt) in
      let n1 = upto_within (difference_norm (point ps f.b) (point ps f.a) b a) in
      let n2 = upto_within (difference_norm (point ps f.c) (point ps f.a) c a) in
      record {
        left = norm_upto _ (cross_near _ _ e1 e2 1276 (lit≤ tt) (lit< tt) (lit< tt)) 1480 (lit≤ tt) (lit< tt) 1278 (lit≤ tt) (lit< tt);
        right = mul_within (mul_within threshold_within n1 1176 (lit≤ tt) (lit< tt)) n2 1278 (lit≤ tt) (lit< tt);
      }
