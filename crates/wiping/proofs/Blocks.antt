-- What one entry more, or a region more, says of the bits of a region, and what one block more leaves of it. Assumes nothing.
use mathlib.Core.Path.{◌≡◌, refl, sym, ap, ◌∙◌, subst}
use mathlib.Core.Bool.{Bool, true, false, not, true≢false}
use mathlib.Core.List.{List}
use Prim.Native.Nat.{ℕ, ◌+◌, ◌-◌, ◌*◌, ◌/◌, ◌≤◌, ◌<◌}
use native.Mathlib.Omega.{arith}
use native.Mathlib.Decide.{dec_lt}
use borrow.Author.Count.{below_more}
use lib.ListN.{length, get_or}
use lib.Dec.{T, eqb, eqb→eq}
use Rattle.std.proofs.lemmas.List.{get_or_read}
use lib.Bits.{bit_or, or_zero_l, or_add_and, and_le_l, and_le_r}
use Rattle.rows.specs.Region.{OnlyOf, HoldsOf, Apart.before}
use Rattle.rows.proofs.Regions.{only_none, only_both, only_more, holds_none, holds_kept}
use Rattle.wiping.specs.Blocks.{Tells, AnyGives, SomeGives}

-- ---- the bits of a region

-- two numbers with no bit between them are both 0, and only they
or_left : (x y : ℕ) → bit_or x y ≡ 0 → x ≡ 0
or_left x y e = omega (arith, or_add_and x y, and_le_l x y, and_le_r x y)

or_right : (x y : ℕ) → bit_or x y ≡ 0 → y ≡ 0
or_right x y e = omega (arith, or_add_and x y, and_le_l x y, and_le_r x y)

or_none : {x y : ℕ} → x ≡ 0 → y ≡ 0 → bit_or x y ≡ 0
or_none {x} {y} e f = ap (λ (a : ℕ). bit_or a y) e ∙ or_zero_l y ∙ f

-- what a read gave tells of the entry
pub read_tells : {A : Type 0} (w : List A) (d : A) {z x : A} {j r : ℕ} → j < length w → x ≡ get_or w j x → Tells z x r → Tells z (get_or w j d) r
read_tells {A} w d {z} {x} {j} {r} h e t = subst (λ y. Tells z y r) (get_or_read w j x h e d) t

-- no entry has no bits
pub any_none : {A : Type 0} {d z : A} (w : List A) (from : ℕ) → AnyGives d z w from 0 0
any_none w from = record { clean = λ e. holds_none; none = λ f. refl }

-- one entry more
pub any_more : {A : Type 0} {d z : A} {w : List A} {from i x r : ℕ} → AnyGives d z w from i x → Tells z (get_or w (from + i) d) r → AnyGives d z w from (i + 1) (bit_or x r)
any_more {A} {d} {z} {w} {from} {i} {x} {r} v t =
    record {
      clean = λ e. record { each = below_more (λ k. get_or w (from + k) d ≡ z) i (v.clean (or_left x r e)).each (t.clean (or_right x r e)) };
      none = λ f. or_none (v.none (record { each = λ k l. f.each k (omega arith) })) (t.none (f.each i (omega arith)));
    }

-- two regions in a row are one
holds_add : {A : Type 0} {d z : A} {from i m : ℕ} {w : List A} → HoldsOf d from i (λ j. z) w → HoldsOf d (from + i) m (λ j. z) w → HoldsOf d from (i + m) (λ j. z) w
holds_add {A} {d} {z} {from} {i} {m} {w} f g = record { each = λ k l. go k l (dec_lt k i) }
  where
    go : (k : ℕ) → k < i + m → Dec (k < i) → get_or w (from + k) d ≡ z
    go k l (yes p) = f.each k p
    go k l (no p) =
        let e : from + k ≡ from + i + (k - i) = omega arith in
        rw e (g.each (k - i) (omega arith))

pub any_add : {A : Type 0} {d z : A} {w : List A} {from i m x y : ℕ} → AnyGives d z w from i x → AnyGives d z w (from + i) m y → AnyGives d z w from (i + m) (bit_or x y)
any_add {A} {d} {z} {w} {from} {i} {m} {x} {y} v u =
    record {
      clean = λ e. holds_add (v.clean (or_left x y e)) (u.clean (or_right x y e));
      none = λ f. or_none (v.none (record { each = λ k l. f.each k (omega arith) })) (u.none (record { each = λ k l. further f k l }));
    }
  where
    further : HoldsOf d from (i + m) (λ j. z) w → (k : ℕ) → k < m → get_or w (from + i + k) d ≡ z
    further f k l =
        let e : from + i + k ≡ from + (i + k) = omega arith in
        rw e (f.each (i + k) (omega arith))

-- ---- four regions in a row, read at once

-- the loop's invariant: x, y, z and u have the bits of the first i entries of each
pub record Four {A : Type 0} (d o : A) (w : List A) (from n x y z u i : ℕ) : Type 0 where
  pub at_most : i ≤ n
  pub first : AnyGives d o w from i x
  pub second : AnyGives d o w (from + n) i y
  pub third : AnyGives d o w (from + n + n) i z
  pub fourth : AnyGives d o w (from + n + n + n) i u

pub four_none : {A : Type 0} {d o : A} (w : List A) (from n : ℕ) → Four d o w from n 0 0 0 0 0
four_none w from n = record { at_most = omega arith; first = any_none w from; second = any_none w (from + n); third = any_none w (from + n + n); fourth = any_none w (from + n + n + n) }

module _ {A : Type 0} {d o : A} {w : List A} {from n x y z u i : ℕ} (v : Four d o w from n x y z u i) where
  -- one entry more of each
  pub four_more : {a b c e : ℕ} → i < n → Tells o (get_or w (from + i) d) a → Tells o (get_or w (from + n + i) d) b → Tells o (get_or w (from + n + n + i) d) c → Tells o (get_or w (from + n + n + n + i) d) e
      → Four d o w from n (bit_or x a) (bit_or y b) (bit_or z c) (bit_or u e) (i + 1)
  four_more h p q r s = record { at_most = omega arith; first = any_more v.first p; second = any_more v.second q; third = any_more v.third r; fourth = any_more v.fourth s }

  -- after n turns they are one region
  pub four_done : n ≤ i → AnyGives d o w from (4 * n) (bit_or (bit_or (bit_or x y) z) u)
  four_done h =
      let e : i ≡ n = omega arith in
      let t : 4 * n ≡ n + n + n + n = omega arith in
      let two : from + n + n ≡ from + (n + n) = omega arith in
      let three : from + n + n + n ≡ from + (n + n + n) = omega arith in
      let a : AnyGives d o w from n x = rw e at v.first in
      let b : AnyGives d o w (from + n) n y = rw e at v.second in
      let c : AnyGives d o w (from + (n + n)) n z = subst (λ k. AnyGives d o w k n z) two (rw e at v.third) in
      let f : AnyGives d o w (from + (n + n + n)) n u = subst (λ k. AnyGives d o w k n u) three (rw e at v.fourth) in
      rw t (any_add (any_add (any_add a b) c) f)

-- four quarters, and what is left of the n entries
pub any_rest : {A : Type 0} {d z : A} {w : List A} {from n x y : ℕ} → AnyGives d z w from (4 * (n / 4)) x → AnyGives d z w (from + 4 * (n / 4)) (n - 4 * (n / 4)) y → AnyGives d z w from n (bit_or x y)
any_rest {A} {d} {z} {w} {from} {n} {x} {y} v u =
    let e : 4 * (n / 4) + (n - 4 * (n / 4)) ≡ n = omega arith in
    subst (λ k. AnyGives d z w from k (bit_or x y)) e (any_add v u)

-- whether there is a bit in what both have
pub any_bit : {A : Type 0} {d z : A} {w : List A} {from n r s : ℕ} {b : Bool} → AnyGives d z w from n r → s ≡ r → b ≡ not (eqb s 0) → SomeGives d z w from n b
any_bit {A} {d} {z} {w} {from} {n} {r} {s} {b} v e f =
    record {
      clean = λ p. v.clean (sym e ∙ eqb→eq s 0 (subst T (sym (not_false (eqb s 0) (sym f ∙ p))) tt));
      dirty = λ p q. go (e ∙ v.none q) (sym f ∙ p);
    }
  where
    not_false : (c : Bool) → not c ≡ false → c ≡ true
    not_false true p = refl
    not_false false p = absurd (true≢false p)

    go : s ≡ 0 → not (eqb s 0) ≡ true → ⊥
    go p q = true≢false (sym q ∙ ap (λ k. not (eqb k 0)) p)

-- ---- block after block, of numbers or of floats

-- the loop's invariant: only the first i entries of the region are changed, and those are z
pub record Wiped {A : Type 0} (d z : A) (w₀ : List A) (from n : ℕ) (w : List A) (i : ℕ) : Type 0 where
  pub at_most : i ≤ n
  pub only : OnlyOf d from i w₀ w
  pub zeros : HoldsOf d from i (λ j. z) w

-- before the first turn none is
pub begin : {A : Type 0} {d z : A} (w : List A) (from n : ℕ) → Wiped d z w from n w 0
begin w from n = record { at_most = omega arith; only = only_none _ _ _; zeros = holds_none }

module _ {A : Type 0} {d z : A} {w₀ : List A} {from n : ℕ} {w : List A} {i m : ℕ} (v : Wiped d z w₀ from n w i) (b : i + m ≤ n) where
  -- a block of zeros is passed
  pub passes : HoldsOf d (from + i) m (λ j. z) w → Wiped d z w₀ from n w (i + m)
  passes f = record { at_most = omega arith; only = only_more (omega arith) (omega arith) v.only; zeros = holds_add v.zeros f }

  -- any block is made zero
  pub clears : {w' : List A} → OnlyOf d (from + i) m w w' → HoldsOf d (from + i) m (λ j. z) w' → Wiped d z w₀ from n w' (i + m)
  clears o f =
      record {
        at_most = omega arith;
        only = only_both (only_more (omega arith) (omega arith) v.only) (only_more (omega arith) (omega arith) o);
        zeros = holds_add (holds_kept o (before (omega arith)) v.zeros) f;
      }

-- after the last block the whole region is zero
pub wiped_only : {A : Type 0} {d z : A} {w₀ : List A} {from n : ℕ} {w : List A} {i : ℕ} → Wiped d z w₀ from n w i → n ≤ i → OnlyOf d from n w₀ w
wiped_only {i = i} v l = only_more (omega arith) (omega (arith, v.at_most)) v.only

pub wiped_zeros : {A : Type 0} {d z : A} {w₀ : List A} {from n : ℕ} {w : List A} {i : ℕ} → Wiped d z w₀ from n w i → n ≤ i → HoldsOf d from n (λ j. z) w
wiped_zeros v l = record { each = λ k q. v.zeros.each k (omega arith) }
