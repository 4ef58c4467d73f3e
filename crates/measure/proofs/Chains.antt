-- The steps of `quality`, `area`, `distance`, `flat` and `shape`, over plain values. Assumes nothing.
use mathlib.Core.Path.{◌≡◌, refl}
use mathlib.Core.Bool.{Bool, true, false}
use mathlib.Core.Logic.{◌⊎◌, inl, inr}
use mathlib.Core.List.{List}
use Prim.Native.Nat.{ℕ}
use borrow.Author.Tests.{eq-eqb, ne_eqb}
use lib.Ieee.{Float, binary64, of_bits, mul, le}
use Rattle.root.specs.Root.{root_of}
use Rattle.rules.specs.Mesh.{Point, zero64, point}
use Rattle.rules.specs.Float.{◌⊕◌, ◌⊗◌, ◌⊘◌, half64, three64, four64, difference, cross, norm², norm, flat, repeats, shape, good, repeated, thin, quality, area}
use Rattle.measure.specs.Measure.{face_of}

-- the code's constant is what antt computes for 4·root(3)
four_root_three : four64 ⊗ root_of three64 ≡ of_bits binary64 4619486481798941866
unfolding mul root_of of_bits
four_root_three = refl

-- ---- quality: the points p0, p1, p2, the differences e0, e1, e2 and their squared norms s0, s1, s2 are the rule's
module _
    (ps : List Point) (a b c : ℕ) {p0 p1 p2 : Point} (h0 : p0 ≡ point ps a) (h1 : p1 ≡ point ps b) (h2 : p2 ≡ point ps c)
    {e0 e1 e2 : Point} (d0 : e0 ≡ difference p1 p0) (d1 : e1 ≡ difference p2 p1) (d2 : e2 ≡ difference p0 p2)
    {s0 s1 s2 : Float} (g0 : s0 ≡ norm² e0) (g1 : s1 ≡ norm² e1) (g2 : s2 ≡ norm² e2) where
  -- a sum that is <= 0 gives 0
  pub no_size : le (s0 ⊕ s1 ⊕ s2) zero64 ≡ true → zero64 ≡ quality ps (face_of a b c)
  unfolding quality
  no_size t = rw (← h0, ← h1, ← h2, ← d0, ← d1, ← d2, ← g0, ← g1, ← g2, t)

  -- any other sum divides
  pub sized :
      {x : Point} {n : Float} → x ≡ cross e0 e1 → n ≡ norm x → le (s0 ⊕ s1 ⊕ s2) zero64 ≡ false
      → of_bits binary64 4619486481798941866 ⊗ (n ⊗ half64) ⊘ (s0 ⊕ s1 ⊕ s2) ≡ quality ps (face_of a b c)
  unfolding quality
  sized e f t = rw (← h0, ← h1, ← h2, ← d0, ← d1, ← d2, ← g0, ← g1, ← g2, t, four_root_three, ← e, ← f)

-- ---- area: the points p0, p1, p2, the differences e1, e2, their cross product and its norm are the rule's
pub sided :
    (ps : List Point) (a b c : ℕ) {p0 p1 p2 : Point} → p0 ≡ point ps a → p1 ≡ point ps b → p2 ≡ point ps c
    → {e1 e2 : Point} → e1 ≡ difference p1 p0 → e2 ≡ difference p2 p0 → {x : Point} {n : Float} → x ≡ cross e1 e2 → n ≡ norm x
    → half64 ⊗ n ≡ area ps (face_of a b c)
unfolding area
sided ps a b c h0 h1 h2 d1 d2 e f = rw (← h0, ← h1, ← h2, ← d1, ← d2, ← e, ← f)

-- ---- distance: the norm of a difference of the points p and q
pub spanned : {p p' q q' : Point} → p ≡ p' → q ≡ q' → {d : Point} {n : Float} → d ≡ difference p q → n ≡ norm d → n ≡ norm (difference p' q')
spanned h g d f = rw (← h, ← g, ← d, f)

-- ---- flat: the differences e1, e2, their cross product x and the three squared norms are the rule's
module _
    (s : Float) (p0 p1 p2 : Point) {e1 e2 x : Point} (d1 : e1 ≡ difference p1 p0) (d2 : e2 ≡ difference p2 p0) (d : x ≡ cross e1 e2)
    {a b c : Float} (ga : a ≡ norm² e1) (gb : b ≡ norm² e2) (gc : c ≡ norm² x) where
  -- where the test does not hold, whatever shows it
  pub not_flat : le (root_of c) (s ⊗ root_of a ⊗ root_of b) ≡ false → false ≡ flat s p0 p1 p2
  unfolding flat norm
  not_flat t = rw (← d1, ← d2, ← d, ← ga, ← gb, ← gc, t)

  -- by the roots
  pub by_roots : {l m n : Float} → l ≡ root_of a → m ≡ root_of b → n ≡ root_of c → le n (s ⊗ l ⊗ m) ≡ flat s p0 p1 p2
  unfolding flat norm
  by_roots ra rb rc = rw (← d1, ← d2, ← d, ← ga, ← gb, ← gc, ra, rb, rc)

-- ---- shape: the comparisons of corners in the rule's order, then the sine
module _ (s : Float) (ps : List Point) (a b c : ℕ) where
  -- two corners are equal
  pub twice : (a ≡ b) ⊎ (((a ≡ b → ⊥) × (b ≡ c)) ⊎ ((a ≡ b → ⊥) × (b ≡ c → ⊥) × (c ≡ a))) → repeated ≡ shape s ps (face_of a b c)
  unfolding shape repeats
  twice (inl e) = rw (eq-eqb a b e)
  twice (inr (inl h)) = rw (ne_eqb a b h.0, eq-eqb b c h.1)
  twice (inr (inr h)) = rw (ne_eqb a b h.0, ne_eqb b c h.1, eq-eqb c a h.2)

  module _
      (n : a ≡ b → ⊥) (m : b ≡ c → ⊥) (l : c ≡ a → ⊥) {p0 p1 p2 : Point} (h0 : p0 ≡ point ps a) (h1 : p1 ≡ point ps b) (h2 : p2 ≡ point ps c)
      {t : Bool} (f : t ≡ flat s p0 p1 p2) where
    -- three corners, and the sine is not above s
    pub is_thin : t ≡ true → thin ≡ shape s ps (face_of a b c)
    unfolding shape repeats
    is_thin e = rw (ne_eqb a b n, ne_eqb b c m, ne_eqb c a l, ← h0, ← h1, ← h2, ← f, e)

    -- three corners, and the sine is above s
    pub is_good : t ≡ false → good ≡ shape s ps (face_of a b c)
    unfolding shape repeats
    is_good e = rw (ne_eqb a b n, ne_eqb b c m, ne_eqb c a l, ← h0, ← h1, ← h2, ← f, e)
