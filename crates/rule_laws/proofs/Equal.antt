-- When two floats read from bits are equal as numbers: their bits are the same, or both are zeros. What an f32 is as an f64, and that a coordinate in its
-- domain is a number. Assumes nothing.
use mathlib.Core.Path.{◌≡◌, refl, sym, ap, ap₂, subst, ◌∙◌}
use mathlib.Core.Logic.{◌⊎◌, inl, inr, ⊎_elim}
use mathlib.Core.Bool.{Bool, true, false, not, ◌&&◌, ◌||◌, beq, cond}
use Prim.Native.Nat.{ℕ, zero, suc, ◌+◌, ◌-◌, ◌*◌, ◌/◌, ◌^◌, ◌<◌}
use native.Mathlib.Nat.{mul-div-mul_right, mul_right_comm, mul_comm, mul-pos, zero-lt-suc, lt_irrefl, zero-mul, zero-div}
use native.Mathlib.Omega.{arith}
use borrow.Author.Tests.{eq-eqb, ne_eqb, eqb-true, eqb-false}
use lib.IntN.{ℤ, pos}
use lib.Dec.{T, eqb, eqb→eq, eqb_refl}
use lib.Ieee.{Float, nan, inf, fin, Format, binary32, binary64, prec, low, up, down, hid, ones, top, size, level, eq, le, lt, fits, is_nan, of_bits, to_bits}
use lib.Ieee.Fits.{up_pos, down_pos, and_l, and_r, and_i, fits_widens}
use lib.Ieee.Bits.{is_true, of_bits-fits, of_bits-to_bits, to_bits-of_bits}
use Rattle.rules.specs.Lists.{all}
use Rattle.rules.specs.Mesh.{Point, coordinates}
use Rattle.rules.specs.Refusal.{in_domain}
use Rattle.rule_laws.proofs.Tests.{or_elim, both_ways}

-- ---- an f32 as an f64

-- an f64 holds the value that an f32's bits stand for
pub widened_fits : (b : ℕ) → T (fits binary64 (of_bits binary32 b))
widened_fits b = fits_widens (of_bits binary32 b) (of_bits-fits binary32 b)

-- and its own bits stand for that value
pub widened_exactly : (b : ℕ) → of_bits binary64 (to_bits binary64 (of_bits binary32 b)) ≡ of_bits binary32 b
widened_exactly b = of_bits-to_bits binary64 (of_bits binary32 b) (widened_fits b)

-- ---- coordinates

-- a NaN is in no domain
pub no_nan : (x : Float) → T (in_domain x) → T (not (is_nan x))
unfolding in_domain le lt eq is_nan
no_nan nan t = absurd t
no_nan (inf s) t = tt
no_nan (fin s m e) t = tt

-- where 4 finds nothing at a point, all three coordinates are in theirs
pub near_all : (p : Point) → not (all in_domain (coordinates p)) ≡ false → T (in_domain p.x) × T (in_domain p.y) × T (in_domain p.z)
unfolding all
near_all p e = go (in_domain p.x) (in_domain p.y) (in_domain p.z) e
  where
    go : (a b c : Bool) → not (a && (b && (c && true))) ≡ false → T a × T b × T c
    go true true true q = (tt, tt, tt)
    go true true false q = absurd (subst T q tt)
    go true false c q = absurd (subst T q tt)
    go false b c q = absurd (subst T q tt)

-- ---- equal numbers and their bits

-- equal fractions, in units
quotient : (A B de dd L : ℕ) → 0 < de → 0 < dd → A * dd ≡ B * de → A * L / de ≡ B * L / dd
quotient A B de dd L p q e =
    sym (mul-div-mul_right {m = dd} (A * L) de q)
    ∙ ap₂ (λ (x y : ℕ). x / y) (mul_right_comm A L dd ∙ ap (λ (x : ℕ). x * L) e ∙ mul_right_comm B de L) (mul_comm de dd)
    ∙ mul-div-mul_right {m = de} (B * L) dd p

-- the bits of a sign and a magnitude in units
abbrev written : Format → Bool → ℕ → ℕ
written f s n = cond s (top f) 0 + (size n - prec f) * hid f + n / 2 ^ (size n - prec f)

-- those of a number
written_is : (f : Format) (s : Bool) (m : ℕ) (e : ℤ) → to_bits f (fin s m e) ≡ written f s (m * up e * 2 ^ low f / down e)
unfolding to_bits
written_is f s m e = refl

-- the bits of a zero
written_zero : (f : Format) (s : Bool) → written f s 0 ≡ cond s (top f) 0
unfolding size
written_zero binary32 true = refl
written_zero binary32 false = refl
written_zero binary64 true = refl
written_zero binary64 false = refl

-- a number that is 0 in size has no digits
no_digits : (m : ℕ) (e d : ℤ) → m * up e * down d ≡ 0 → m ≡ 0
no_digits zero e d h = refl
no_digits (suc m) e d h = absurd (lt_irrefl 0 (subst (λ (x : ℕ). 0 < x) h (mul-pos (mul-pos (zero-lt-suc m) (up_pos e)) (down_pos d))))

-- its bits are a zero's
zero_bits : (f : Format) (s : Bool) (m : ℕ) (e d : ℤ) → m * up e * down d ≡ 0 → to_bits f (fin s m e) ≡ cond s (top f) 0
zero_bits f s m e d h =
    written_is f s m e
    ∙ ap (written f s) (ap (λ (x : ℕ). x * up e * 2 ^ low f / down e) (no_digits m e d h) ∙ ap (λ (x : ℕ). x / down e) (ap (λ (x : ℕ). x * 2 ^ low f) (zero-mul (up e)) ∙ zero-mul (2 ^ low f)) ∙ zero-div (down e))
    ∙ written_zero f s

-- two signs
same_sign : (s t : Bool) → T (beq s t) → s ≡ t
same_sign true true h = refl
same_sign true false h = absurd h
same_sign false true h = absurd h
same_sign false false h = refl

-- the two zeros' bits
pub data Zero (f : Format) (b : ℕ) : Type 0 where
  plus : b ≡ 0 → Zero f b
  minus : b ≡ top f → Zero f b

-- those of a sign
zero_of : (f : Format) (s : Bool) (b : ℕ) → b ≡ cond s (top f) 0 → Zero f b
zero_of f true b e = minus e
zero_of f false b e = plus e

-- equal numbers have the same bits, or are zeros
eq_bits : (f : Format) (x y : Float) → T (eq x y) → (to_bits f x ≡ to_bits f y) ⊎ (Zero f (to_bits f x) × Zero f (to_bits f y))
unfolding eq
eq_bits f nan y t = absurd t
eq_bits f (inf s) nan t = absurd t
eq_bits f (inf s) (inf r) t = inl (ap (λ u. to_bits f (inf u)) (same_sign s r t))
eq_bits f (inf s) (fin r n d) t = absurd t
eq_bits f (fin s m e) nan t = absurd t
eq_bits f (fin s m e) (inf r) t = absurd t
eq_bits f (fin s m e) (fin r n d) t = go (or_elim (beq s r) (eqb A 0) (and_r (eqb A B) (beq s r || eqb A 0) t))
  where
    A : ℕ
    A = m * up e * down d

    B : ℕ
    B = n * up d * down e

    level_at : A ≡ B
    level_at = eqb→eq A B (and_l (eqb A B) (beq s r || eqb A 0) t)

    go : T (beq s r) ⊎ T (eqb A 0) → (to_bits f (fin s m e) ≡ to_bits f (fin r n d)) ⊎ (Zero f (to_bits f (fin s m e)) × Zero f (to_bits f (fin r n d)))
    go (inl h) =
        inl
        (written_is f s m e
        ∙ ap₂ (written f) (same_sign s r h) (quotient (m * up e) (n * up d) (down e) (down d) (2 ^ low f) (down_pos e) (down_pos d) level_at)
        ∙ sym (written_is f r n d))
    go (inr h) =
        let a = eqb→eq A 0 h in
        inr (zero_of f s _ (zero_bits f s m e d a), zero_of f r _ (zero_bits f r n d e (sym level_at ∙ a)))

-- a number is equal to itself
eq_self : (x : Float) → T (not (is_nan x)) → T (eq x x)
unfolding eq is_nan
eq_self nan h = absurd h
eq_self (inf true) h = tt
eq_self (inf false) h = tt
eq_self (fin true m e) h = and_i (eqb (m * up e * down e) (m * up e * down e)) true (eqb_refl (m * up e * down e)) tt
eq_self (fin false m e) h = and_i (eqb (m * up e * down e) (m * up e * down e)) true (eqb_refl (m * up e * down e)) tt

-- both zeros are equal
zeros_eq : (f : Format) (b c : ℕ) → Zero f b → Zero f c → T (eq (of_bits f b) (of_bits f c))
unfolding eq of_bits
zeros_eq binary32 b c (plus p) (plus q) = rw (p, q) tt
zeros_eq binary32 b c (plus p) (minus q) = rw (p, q) tt
zeros_eq binary32 b c (minus p) (plus q) = rw (p, q) tt
zeros_eq binary32 b c (minus p) (minus q) = rw (p, q) tt
zeros_eq binary64 b c (plus p) (plus q) = rw (p, q) tt
zeros_eq binary64 b c (plus p) (minus q) = rw (p, q) tt
zeros_eq binary64 b c (minus p) (plus q) = rw (p, q) tt
zeros_eq binary64 b c (minus p) (minus q) = rw (p, q) tt

-- ---- by their bits alone

-- the bits with +0 for -0
unfoldable pub one_zero : Format → ℕ → ℕ
one_zero f b = cond (eqb b (top f)) 0 b

-- of -0
pub one_zero_minus : (f : Format) (b : ℕ) → b ≡ top f → one_zero f b ≡ 0
unfolding one_zero
one_zero_minus f b e = rw (eq-eqb b (top f) e) refl

-- of all others
pub one_zero_other : (f : Format) (b : ℕ) → (b ≡ top f → ⊥) → one_zero f b ≡ b
unfolding one_zero
one_zero_other f b e = rw (ne_eqb b (top f) e) refl

-- of a zero
zero_one : (f : Format) (b : ℕ) → Zero f b → one_zero f b ≡ 0
zero_one f b (minus e) = one_zero_minus f b e
zero_one binary32 b (plus e) = one_zero_other binary32 b (omega arith) ∙ e
zero_one binary64 b (plus e) = one_zero_other binary64 b (omega arith) ∙ e

-- where two have the same, they are the same or zeros
one_zero_same : (f : Format) (b c : ℕ) → one_zero f b ≡ one_zero f c → (b ≡ c) ⊎ (Zero f b × Zero f c)
one_zero_same f b c h = go (eqb b (top f)) (eqb c (top f)) refl refl
  where
    go : (u v : Bool) → eqb b (top f) ≡ u → eqb c (top f) ≡ v → (b ≡ c) ⊎ (Zero f b × Zero f c)
    go true true p q = inl (eqb-true b (top f) p ∙ sym (eqb-true c (top f) q))
    go true false p q =
        let e = eqb-true b (top f) p in
        inr (minus e, plus (sym (one_zero_other f c (eqb-false c (top f) q)) ∙ sym h ∙ one_zero_minus f b e))
    go false true p q =
        let e = eqb-true c (top f) q in
        inr (plus (sym (one_zero_other f b (eqb-false b (top f) p)) ∙ h ∙ one_zero_minus f c e), minus e)
    go false false p q = inl (sym (one_zero_other f b (eqb-false b (top f) p)) ∙ h ∙ one_zero_other f c (eqb-false c (top f) q))

-- two numbers read from bits are equal exactly if their bits are, with +0 for -0
pub eq_by_bits :
    (f : Format) (b c : ℕ) → b < 2 * top f → c < 2 * top f → T (not (is_nan (of_bits f b))) → T (not (is_nan (of_bits f c)))
    → eq (of_bits f b) (of_bits f c) ≡ eqb (one_zero f b) (one_zero f c)
eq_by_bits f b c lb lc nb nc =
    both_ways (eq (of_bits f b) (of_bits f c)) (eqb (one_zero f b) (one_zero f c))
    (λ t. subst T (sym (eq-eqb (one_zero f b) (one_zero f c) (there (eq_bits f (of_bits f b) (of_bits f c) t)))) tt)
    (λ t. back (one_zero_same f b c (eqb→eq (one_zero f b) (one_zero f c) t)))
  where
    eb : to_bits f (of_bits f b) ≡ b
    eb = to_bits-of_bits f b lb nb

    ec : to_bits f (of_bits f c) ≡ c
    ec = to_bits-of_bits f c lc nc

    there : (to_bits f (of_bits f b) ≡ to_bits f (of_bits f c)) ⊎ (Zero f (to_bits f (of_bits f b)) × Zero f (to_bits f (of_bits f c))) → one_zero f b ≡ one_zero f c
    there (inl e) = ap (one_zero f) (sym eb ∙ e ∙ ec)
    there (inr z) = zero_one f b (subst (Zero f) eb z.0) ∙ sym (zero_one f c (subst (Zero f) ec z.1))

    back : (b ≡ c) ⊎ (Zero f b × Zero f c) → T (eq (of_bits f b) (of_bits f c))
    back (inl e) = subst (λ x. T (eq (of_bits f b) (of_bits f x))) e (eq_self (of_bits f b) nb)
    back (inr z) = zeros_eq f b c z.0 z.1
