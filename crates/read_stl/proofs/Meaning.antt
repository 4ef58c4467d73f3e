-- Corners are equal as numbers exactly if their bits, with +0 for -0, are the same. Assumes nothing.
use mathlib.Core.Path.{◌≡◌, refl, sym, ap, ap₂, subst, ◌∙◌}
use mathlib.Core.Bool.{Bool, true, false, not, ◌&&◌}
use mathlib.Core.List.{List}
use Prim.Native.Nat.{ℕ, zero, suc, ◌+◌, ◌*◌, ◌^◌, ◌<◌}
use native.Mathlib.Nat.{le_of_suc-le-suc, not-suc-le-zero}
use native.Mathlib.Decide.{ℕ_discrete}
use native.Mathlib.Omega.{arith}
use borrow.Author.Tests.{eq-eqb, eqb-true}
use lib.Dec.{T, eqb}
use lib.ListN.{get_or}
use lib.Ieee.{binary32, is_nan, eq}
use Rattle.rules.specs.Mesh.{Point, point, zero64}
use Rattle.rules.specs.Refusal.{ok, no4}
use Rattle.rules.specs.Bytes.{u32_at}
use Rattle.rules.specs.Stl.{facets, coordinate, corner_at, place_of, corners_of, equal}
use Rattle.rule_laws.proofs.Equal.{no_nan, near_all, one_zero, one_zero_other, eq_by_bits}
use Rattle.rule_laws.proofs.Firsts.{fine_exactly}
use Rattle.refuse.specs.Verdicts.{far}
use Rattle.stl_file.proofs.Scanning.{length_corners, corner_is}
use Rattle.equal_rows.specs.Firsts.{Level, First}
use Rattle.read_stl.specs.Rows.{bits_at, KeysGives}
use Rattle.read_stl.proofs.Merging.{FirstEqual}

-- bits that are a u32 with +0 for -0 are one
small_bits : (b : ℕ) → one_zero binary32 b < 2 ^ 32 → b < 2 ^ 32
small_bits b h = go (ℕ_discrete b 2147483648)
  where
    go : Dec (b ≡ 2147483648) → b < 2 ^ 32
    go (yes e) = omega arith
    go (no e) = omega (arith, one_zero_other binary32 b e)

-- a number of 32 bits that is no NaN
record Plain (file : List ℕ) (i : ℕ) : Type 0 where
  small : u32_at file i < 2 ^ 32
  number : T (not (is_nan (coordinate file i)))

-- two of them are equal exactly if their bits are
eq_is : (file : List ℕ) (i j : ℕ) → Plain file i → Plain file j → eq (coordinate file i) (coordinate file j) ≡ eqb (bits_at file i) (bits_at file j)
unfolding coordinate
eq_is file i j a b = eq_by_bits binary32 (u32_at file i) (u32_at file j) a.small b.small a.number b.number

-- three tests that all pass
three_pass : (a b c : Bool) → (a && b && c) ≡ true → (a ≡ true) × (b ≡ true) × (c ≡ true)
three_pass true true true e = (refl, refl, refl)
three_pass true true false e = absurd (subst T (sym e) tt)
three_pass true false c e = absurd (subst T (sym e) tt)
three_pass false b c e = absurd (subst T (sym e) tt)

module _ {file : List ℕ} {n : ℕ} {w w1 : List ℕ} (many : n ≡ 3 * facets file) (dom : no4 (corners_of file) ≡ ok) (g : KeysGives file n w w1) where
  -- a corner of the rules
  at_is : (c : ℕ) → c < n → point (corners_of file) c ≡ corner_at file (place_of c)
  unfolding point
  at_is c h = corner_is file c (record { x = zero64; y = zero64; z = zero64 }) (omega arith)

  -- is in its domain
  domain_at : (c : ℕ) → c < n → far (corner_at file (place_of c)) ≡ false
  unfolding no4
  domain_at c h =
      let d : Point = record { x = zero64; y = zero64; z = zero64 } in
      ap far (sym (corner_is file c d (omega arith))) ∙ (fine_exactly far d 4 (corners_of file)).0 dom c (omega (arith, length_corners file))

  -- so its coordinates are numbers
  plain : (c : ℕ) → c < n → Plain file (place_of c) × Plain file (place_of c + 4) × Plain file (place_of c + 8)
  unfolding corner_at
  plain c h =
      let s = g.small c h in
      let d = near_all (corner_at file (place_of c)) (domain_at c h) in (
        record { small = small_bits (u32_at file (place_of c)) s.x; number = no_nan (coordinate file (place_of c)) d.0 },
        record { small = small_bits (u32_at file (place_of c + 4)) s.y; number = no_nan (coordinate file (place_of c + 4)) d.1 },
        record { small = small_bits (u32_at file (place_of c + 8)) s.z; number = no_nan (coordinate file (place_of c + 8)) d.2 },
      )

  -- the test of two corners, by their bits
  abbrev same_bits : ℕ → ℕ → Bool
  same_bits x y =
      eqb (bits_at file (place_of x)) (bits_at file (place_of y)) && eqb (bits_at file (place_of x + 4)) (bits_at file (place_of y + 4))
      && eqb (bits_at file (place_of x + 8)) (bits_at file (place_of y + 8))

  equal_is : (x y : ℕ) → x < n → y < n → equal (point (corners_of file) x) (point (corners_of file) y) ≡ same_bits x y
  unfolding equal corner_at
  equal_is x y a b =
      let p = plain x a in
      let q = plain y b in
      ap₂ equal (at_is x a) (at_is y b)
      ∙ ap₂ (λ (s t : Bool). s && t)
      (ap₂ (λ (s t : Bool). s && t) (eq_is file (place_of x) (place_of y) p.0 q.0) (eq_is file (place_of x + 4) (place_of y + 4) p.1 q.1))
      (eq_is file (place_of x + 8) (place_of y + 8) p.2 q.2)

  -- the bits in the row
  row_x : (c : ℕ) → c < n → get_or w1 (0 * n + c) 0 ≡ bits_at file (place_of c)
  row_x c h = ap (λ i. get_or w1 i 0) (omega arith) ∙ g.xs.each c h

  row_y : (c : ℕ) → c < n → get_or w1 (1 * n + c) 0 ≡ bits_at file (place_of c + 4)
  row_y c h = ap (λ i. get_or w1 i 0) (omega arith) ∙ g.ys.each c h

  row_z : (c : ℕ) → c < n → get_or w1 (2 * n + c) 0 ≡ bits_at file (place_of c + 8)
  row_z c h = g.zs.each c h

  -- rows with the same keys are equal corners
  pub level_equal : (x y : ℕ) → x < n → y < n → Level w1 n 3 x y → equal (point (corners_of file) x) (point (corners_of file) y) ≡ true
  level_equal x y a b l =
      let ex = sym (row_x x a) ∙ l.each 0 (omega arith) ∙ row_x y b in
      let ey = sym (row_y x a) ∙ l.each 1 (omega arith) ∙ row_y y b in
      let ez = sym (row_z x a) ∙ l.each 2 (omega arith) ∙ row_z y b in
      equal_is x y a b ∙ rw (eq-eqb _ _ ex, eq-eqb _ _ ey, eq-eqb _ _ ez) refl

  -- and equal corners have the same keys
  pub equal_level : (x y : ℕ) → x < n → y < n → equal (point (corners_of file) x) (point (corners_of file) y) ≡ true → Level w1 n 3 x y
  equal_level x y a b e =
      let t =
      three_pass (eqb (bits_at file (place_of x)) (bits_at file (place_of y))) (eqb (bits_at file (place_of x + 4)) (bits_at file (place_of y + 4)))
      (eqb (bits_at file (place_of x + 8)) (bits_at file (place_of y + 8))) (sym (equal_is x y a b) ∙ e) in
      record { each = λ c h. go t c h }
    where
      go : (eqb (bits_at file (place_of x)) (bits_at file (place_of y)) ≡ true) × (eqb (bits_at file (place_of x + 4)) (bits_at file (place_of y + 4)) ≡ true)
          × (eqb (bits_at file (place_of x + 8)) (bits_at file (place_of y + 8)) ≡ true)
          → (c : ℕ) → c < 3 → get_or w1 (c * n + x) 0 ≡ get_or w1 (c * n + y) 0
      go t zero h = row_x x a ∙ eqb-true _ _ t.0 ∙ sym (row_x y b)
      go t (suc zero) h = row_y x a ∙ eqb-true _ _ t.1 ∙ sym (row_y y b)
      go t (suc (suc zero)) h = row_z x a ∙ eqb-true _ _ t.2 ∙ sym (row_z y b)
      go t (suc (suc (suc c))) h = absurd (not-suc-le-zero (le_of_suc-le-suc (le_of_suc-le-suc (le_of_suc-le-suc h))))

  -- so the first row with a row's keys is the first corner that is equal to it
  pub first_equal : (x r : ℕ) → x < n → First w1 n 3 x r → FirstEqual (corners_of file) x r
  first_equal x r h f =
      record {
        at_most = f.at_most;
        here = level_equal x r h (omega (arith, f.at_most)) (record { each = λ c q. sym (f.level.each c q) });
        none = λ y l. go y l (equal (point (corners_of file) x) (point (corners_of file) y)) refl;
      }
    where
      go : (y : ℕ) → y < r → (b : Bool) → equal (point (corners_of file) x) (point (corners_of file) y) ≡ b → equal (point (corners_of file) x) (point (corners_of file) y) ≡ false
      go y l true e = absurd (f.none y l (record { each = λ c q. sym ((equal_level x y h (omega (arith, f.at_most)) e).each c q) }))
      go y l false e = e

  -- which is its own first one
  pub first_own : (x r : ℕ) → x < n → First w1 n 3 x r → FirstEqual (corners_of file) r r
  first_own x r h f =
      first_equal r r (omega (arith, f.at_most))
      (record {
        at_most = omega arith;
        level = record { each = λ c q. refl };
        none = λ y l v. f.none y l (record { each = λ c q. v.each c q ∙ f.level.each c q });
      })
