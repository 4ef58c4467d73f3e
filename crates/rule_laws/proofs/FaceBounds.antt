-- Of three points in the domain, area and quality are finite and not negative: no step overflows, and no quotient of two tiny numbers does. Exponents
-- count the smallest f64, 2^-1074. Assumes nothing.
use mathlib.Core.Path.{◌≡◌, refl, sym, ◌∙◌}
use mathlib.Core.Bool.{Bool, true, false, ◌&&◌, ◌||◌, cond, true≢false}
use Prim.Native.Nat.{ℕ, zero, suc, ◌+◌, ◌*◌, ◌%◌, ◌^◌, ◌≤◌, ◌<◌}
use native.Mathlib.Nat.{le_of_lt, mul-le-mul_right, mul-pos, not-le_of_lt}
use native.Mathlib.Omega.{arith}
use borrow.Author.Tests.{leb-true, leb-false}
use lib.Dec.{T, ltb, eqb, leb, lit<, lit≤, leb→le}
use lib.Ieee.{Float, nan, inf, fin, binary64, up, down, le, fits, mul}
use lib.Ieee.Fits.{add-fits, up_pos}
use lib.Ieee.Scale.{finite}
use lib.Ieee.Positive.{num, den}
use Rattle.root.specs.Root.{root_of}
use Rattle.root.specs.Nearest.{plain}
use Rattle.rules.specs.Mesh.{Point, zero64}
use Rattle.rules.specs.Float.{◌⊕◌, ◌⊗◌, ◌⊘◌, half64, three64, four64, difference, cross, norm², norm}
use Rattle.rule_laws.proofs.Bounds.{Within, Upto, AtLeast, Fits, upto_more}
use Rattle.rule_laws.proofs.FloatSteps.{add_upto, mul_upto, add_from, add_from_right, div_upto}
use Rattle.rule_laws.proofs.Domain.{Near, difference_near, cross_near, norm²_upto, norm²_x, norm²_y, norm²_z, norm_upto}

-- 0.5 is 2^-1
half_upto : Upto binary64 1073 half64
half_upto = record { is_plain = tt; small = leb→le _ _ tt }

-- ---- area

-- an area is at most 2^203
pub area_upto :
    (a b c : Point) → Near 1174 a → Near 1174 b → Near 1174 c → Upto binary64 1277 (half64 ⊗ norm (cross (difference b a) (difference c a)))
area_upto a b c p q r =
    let e = difference_near b a q p (lit< tt) in
    let f = difference_near c a r p (lit< tt) in
    let x = cross_near (difference b a) (difference c a) e f 1276 (lit≤ tt) (lit< tt) (lit< tt) in
    mul_upto half_upto (norm_upto (cross (difference b a) (difference c a)) x 1480 (lit≤ tt) (lit< tt) 1278 (lit≤ tt) (lit< tt)) 1277 (lit≤ tt) (lit< tt)

-- ---- quality

-- 4·root(3) is at most 2^3
const_upto : Upto binary64 1077 (four64 ⊗ root_of three64)
unfolding mul root_of
const_upto = record { is_plain = tt; small = leb→le _ _ tt }

-- +0 is at most anything
pub zero_upto : (k : ℕ) → Upto binary64 k zero64
zero_upto k = record { is_plain = tt; small = none (2 ^ 1074) (2 ^ k * 1) }
  where
    none : (l b : ℕ) → 0 * l ≤ b
    none l b = omega arith

-- the third of four tests that hold
third : (a b c d : Bool) → T (a && b && c && d) → T c
third true true true d t = tt
third true true false d t = absurd t
third true false c d t = absurd t
third false b c d t = absurd t

-- a sum that is not at most 0 is at least the smallest value
at_least_one : (x : Float) → T (fits binary64 x) → T (plain x) → le x zero64 ≡ false → AtLeast binary64 0 x
unfolding fits le
at_least_one nan t p h = absurd p
at_least_one (inf s) t p h = absurd p
at_least_one (fin true m e) t p h = absurd p
at_least_one (fin false zero e) t p h = absurd (true≢false (sym (zeros (up e) (down e)) ∙ h))
  where
    zeros : (u d : ℕ) → (ltb (0 * u * 1) (0 * 1 * d) || (eqb (0 * u * 1) (0 * 1 * d) && (true || eqb (0 * u * 1) 0))) ≡ true
    zeros u d = rw (z1 u, z2 d)
      where
        z1 : (u : ℕ) → 0 * u * 1 ≡ 0
        z1 u = omega arith

        z2 : (d : ℕ) → 0 * 1 * d ≡ 0
        z2 d = omega arith
at_least_one (fin false (suc m) e) t p h =
    record { large = reach (down e) (suc m) (up e) (2 ^ 1074) (leb→le (down e) (2 ^ 1074) (third (eqb (suc m % 2) 1) (ltb (suc m) (2 ^ 53)) (leb (down e) (2 ^ 1074)) (ltb (suc m * up e) (2 ^ 1024 * down e)) t)) (mul-pos {m = suc m} (omega arith) (up_pos e)) }
  where
    reach : (d m u L : ℕ) → d ≤ L → 0 < m * u → 1 * d ≤ m * u * L
    reach d m u L h g = let a : 1 * L ≤ m * u * L = mul-le-mul_right L g in omega arith

-- a number that is not at least 2 ^ j is at most 2 ^ j
small_or : (j : ℕ) (x : Float) → T (finite x) → (AtLeast binary64 j x → ⊥) → Within binary64 j x
small_or j x f clash = record { is_finite = f; small = go (leb (2 ^ j * den x) (num x * 2 ^ 1074)) refl }
  where
    go : (b : Bool) → leb (2 ^ j * den x) (num x * 2 ^ 1074) ≡ b → num x * 2 ^ 1074 ≤ 2 ^ j * den x
    go true e = absurd (clash (record { large = leb-true _ _ e }))
    go false e = le_of_lt (leb-false _ _ e)

module _ (p0 p1 p2 : Point) (a : Near 1174 p0) (b : Near 1174 p1) (c : Near 1174 p2) where
  -- the edge from the first point to the second
  abbrev e0 : Point
  e0 = difference p1 p0

  -- the edge from the second point to the third
  abbrev e1 : Point
  e1 = difference p2 p1

  -- the edge from the third point to the first
  abbrev e2 : Point
  e2 = difference p0 p2

  -- the first edge is at most 2^101 in each component
  near0 : Near 1175 e0
  near0 = difference_near p1 p0 b a (lit< tt)

  -- so is the second
  near1 : Near 1175 e1
  near1 = difference_near p2 p1 c b (lit< tt)

  -- so is the third
  near2 : Near 1175 e2
  near2 = difference_near p0 p2 a c (lit< tt)

  -- the squared norm of the first edge is at most 2^204
  n0 : Upto binary64 1278 (norm² e0)
  n0 = norm²_upto e0 near0 1276 (lit≤ tt) (lit< tt)

  -- so is that of the second
  n1 : Upto binary64 1278 (norm² e1)
  n1 = norm²_upto e1 near1 1276 (lit≤ tt) (lit< tt)

  -- so is that of the third
  n2 : Upto binary64 1279 (norm² e2)
  n2 = upto_more 1279 (lit≤ tt) (norm²_upto e2 near2 1276 (lit≤ tt) (lit< tt))

  -- the sum of the first two is at most 2^205
  n01 : Upto binary64 1279 (norm² e0 ⊕ norm² e1)
  n01 = add_upto n0 n1 (lit< tt)

  -- the sum of the squared norms
  abbrev total : Float
  total = norm² e0 ⊕ norm² e1 ⊕ norm² e2

  -- it is at most 2^206
  total_upto : Upto binary64 1280 total
  total_upto = add_upto n01 n2 (lit< tt)

  -- the top of the fraction
  abbrev top : Float
  top = four64 ⊗ root_of three64 ⊗ (norm (cross e0 e1) ⊗ half64)

  -- the bound of the top, by a bound i of the edges
  top_upto : (i k n : ℕ) → Near i e0 → Near i e1 → i + i ≤ k + 1074 → Fits binary64 k → Fits binary64 (suc k) → (l : ℕ) → suc k + suc k ≤ l + 1074 → Fits binary64 (suc (suc l)) → suc (suc l) + 1074 ≤ n + n
      → Fits binary64 n → (u : ℕ) → n + 1073 ≤ u + 1074 → Fits binary64 u → (w : ℕ) → 1077 + u ≤ w + 1074 → Fits binary64 w → Upto binary64 w top
  top_upto i k n g0 g1 h F G l h2 F2 h3 F3 u h4 F4 w h5 F5 =
      mul_upto const_upto (mul_upto (norm_upto (cross e0 e1) (cross_near e0 e1 g0 g1 k h F G) l h2 F2 n h3 F3) half_upto u h4 F4) w h5 F5

  -- where the sum is at least 2^-800, the quotient is at most 2^1006
  large_case : AtLeast binary64 274 total → Upto binary64 2080 (top ⊘ total)
  large_case g =
      div_upto
      (top_upto 1175 1276 1278 near0 near1 (lit≤ tt) (lit< tt) (lit< tt) 1480 (lit≤ tt) (lit< tt) (lit≤ tt) (lit< tt) 1277 (lit≤ tt) (lit< tt) 1280 (lit≤ tt) (lit< tt))
      total_upto.is_plain g 2080 (lit≤ tt) (lit< tt)

  -- a large first edge makes the sum large
  from0 : AtLeast binary64 274 (norm² e0) → AtLeast binary64 274 total
  from0 g = add_from n01 n2 (lit< tt) (add_from n0 n1 (lit< tt) g)

  -- a large second edge makes the sum large
  from1 : AtLeast binary64 274 (norm² e1) → AtLeast binary64 274 total
  from1 g = add_from n01 n2 (lit< tt) (add_from_right n0 n1 (lit< tt) g)

  -- a squared norm below 2^-800 is of components below 2^-400
  tiny : (v : Point) → Near 1175 v → (AtLeast binary64 274 (norm² v) → ⊥) → Near 674 v
  tiny v g clash =
      record {
        x = small_or 674 v.x g.x.is_finite (λ h. clash (norm²_x v g 1276 (lit≤ tt) (lit< tt) 274 (lit≤ tt) h));
        y = small_or 674 v.y g.y.is_finite (λ h. clash (norm²_y v g 1276 (lit≤ tt) (lit< tt) 274 (lit≤ tt) h));
        z = small_or 674 v.z g.z.is_finite (λ h. clash (norm²_z v g 1276 (lit≤ tt) (lit< tt) 274 (lit≤ tt) h));
      }

  -- where the sum is below 2^-800, the top is at most 2^-534, and the quotient at most 2^540
  small_case : AtLeast binary64 0 total → (AtLeast binary64 274 total → ⊥) → Upto binary64 2080 (top ⊘ total)
  small_case g clash =
      upto_more 2080 (lit≤ tt)
      (div_upto
      (top_upto 674 274 538 (tiny e0 near0 (λ h. clash (from0 h))) (tiny e1 near1 (λ h. clash (from1 h))) (lit≤ tt) (lit< tt) (lit< tt) 0 (lit≤ tt) (lit< tt) (lit≤ tt) (lit< tt) 537 (lit≤ tt) (lit< tt)
      540 (lit≤ tt) (lit< tt))
      total_upto.is_plain g 1614 (lit≤ tt) (lit< tt))

  -- the sum is an f64
  total_fits : T (fits binary64 total)
  total_fits = add-fits binary64 (norm² e0 ⊕ norm² e1) (norm² e2)

  -- a quality is at most 2^1006
  pub quality_upto : Upto binary64 2080 (cond (le total zero64) zero64 (top ⊘ total))
  quality_upto = go (le total zero64) refl
    where
      big : AtLeast binary64 0 total → (t : Bool) → leb (2 ^ 274 * den total) (num total * 2 ^ 1074) ≡ t → Upto binary64 2080 (top ⊘ total)
      big g true e = large_case (record { large = leb-true _ _ e })
      big g false e = small_case g (λ h. not-le_of_lt (leb-false _ _ e) h.large)

      go : (t : Bool) → le total zero64 ≡ t → Upto binary64 2080 (cond t zero64 (top ⊘ total))
      go true e = zero_upto 2080
      go false e = big (at_least_one total total_fits total_upto.is_plain e) (leb (2 ^ 274 * den total) (num total * 2 ^ 1074)) refl
