-- Where no value is NaN, infinite or negative, rank is a strict total order: one entry ranks before another by its value, and by its index where the
-- values are equal. Assumes nothing.
use mathlib.Core.Path.{◌≡◌, refl, sym, subst}
use mathlib.Core.Bool.{Bool, true, false, not, ◌&&◌, ◌||◌}
use mathlib.Core.Logic.{◌⊎◌, inl, inr}
use Prim.Native.Nat.{ℕ, ◌*◌, ◌≤◌, ◌<◌}
use native.Mathlib.Nat.{le_refl, le_of_lt, not-le_of_lt, lt_irrefl}
use native.Mathlib.Omega.{arith}
use lib.Dec.{T, ltb, ltb→lt, lt→ltb, nltb→le}
use lib.Arith.{lt_of_le-ne}
use lib.Ieee.{Float, nan, inf, fin, lt}
use lib.Ieee.Positive.{num, den, den_pos, through}
use Rattle.root.specs.Nearest.{plain}
use Rattle.rules.specs.Rank.{outranks}

-- a strict total order: none is before itself, before passes on, and of two that differ one is before the other
pub record StrictTotal (before : ℕ → ℕ → Bool) : Type 0 where
  pub irreflexive : (i : ℕ) → T (before i i) → ⊥
  pub transitive : (i j k : ℕ) → T (before i j) → T (before j k) → T (before i k)
  pub total : (i j : ℕ) → (i ≡ j → ⊥) → T (before i j) ⊎ T (before j i)

-- of two that are not negative: less is less with the denominators multiplied out
lt_is : (x y : Float) → T (plain x) → T (plain y) → lt x y ≡ ltb (num x * den y) (num y * den x)
unfolding lt
lt_is nan y p q = absurd p
lt_is (inf s) y p q = absurd p
lt_is (fin true m e) y p q = absurd p
lt_is (fin false m e) nan p q = absurd q
lt_is (fin false m e) (inf t) p q = absurd q
lt_is (fin false m e) (fin true n d) p q = absurd q
lt_is (fin false m e) (fin false n d) p q = refl

-- i is before j, where a and b are the values of j and of i with the denominators multiplied out
record Before (a b i j : ℕ) : Type 0 where
  value : a ≤ b
  index : b ≤ a → i < j

-- from the test
before_is : (a b i j : ℕ) → T (ltb a b || not (ltb b a) && ltb i j) → Before a b i j
before_is a b i j t = go (ltb a b) (ltb b a) (ltb→lt a b) (nltb→le b a) t
  where
    go : (x y : Bool) → (T x → a < b) → (T (not y) → a ≤ b) → T (x || not y && ltb i j) → Before a b i j
    go true y l n t = record { value = le_of_lt (l tt); index = λ h. absurd (not-le_of_lt (l tt) h) }
    go false false l n t = record { value = n tt; index = λ h. ltb→lt i j t }
    go false true l n t = absurd t

-- to the test
is_before : (a b i j : ℕ) → Before a b i j → T (ltb a b || not (ltb b a) && ltb i j)
is_before a b i j v = go (ltb a b) (ltb b a) (nltb→le a b) (ltb→lt b a)
  where
    go : (x y : Bool) → (T (not x) → b ≤ a) → (T y → b < a) → T (x || not y && ltb i j)
    go true y n l = tt
    go false true n l = absurd (not-le_of_lt (l tt) v.value)
    go false false n l = lt→ltb i j (v.index (n tt))

module _ (q : ℕ → Float) (p : (i : ℕ) → T (plain (q i))) where
  -- i's value, over j's denominator
  at : ℕ → ℕ → ℕ
  at i j = num (q i) * den (q j)

  -- who outranks whom, over whole numbers
  opened : (i j : ℕ) → outranks q i j ≡ (ltb (at j i) (at i j) || not (ltb (at i j) (at j i)) && ltb i j)
  unfolding outranks at
  opened i j = rw (lt_is (q j) (q i) (p j) (p i), lt_is (q i) (q j) (p i) (p j))

  -- from outranks
  from : (i j : ℕ) → T (outranks q i j) → Before (at j i) (at i j) i j
  from i j t = before_is (at j i) (at i j) i j (subst T (opened i j) t)

  -- to outranks
  to : (i j : ℕ) → Before (at j i) (at i j) i j → T (outranks q i j)
  to i j v = subst T (sym (opened i j)) (is_before (at j i) (at i j) i j v)

  -- k ≤ j ≤ i by value
  down : (i j k : ℕ) → at k j ≤ at j k → at j i ≤ at i j → at k i ≤ at i k
  unfolding at
  down i j k h g = through (num (q k)) (num (q j)) (num (q i)) (den (q k)) (den (q j)) (den (q i)) (den_pos (q j)) h g

  -- rank is a strict total order
  pub rank_is_order : StrictTotal (outranks q)
  rank_is_order =
      record {
        irreflexive = λ i t. let v = from i i t in lt_irrefl i (v.index (le_refl (at i i)));
        transitive = λ i j k s t.
            let v = from i j s in
            let w = from j k t in
            to i k
            (record {
              value = down i j k w.value v.value;
              index = λ (h : at i k ≤ at k i).
                  let a : i < j = v.index (down j k i h w.value) in
                  let b : j < k = w.index (down k i j v.value h) in
                  omega arith;
            });
        total = λ i j n. choose i j n (ltb (at j i) (at i j)) (ltb (at i j) (at j i)) refl refl;
      }
    where
      choose : (i j : ℕ) → (i ≡ j → ⊥) → (x y : Bool) → ltb (at j i) (at i j) ≡ x → ltb (at i j) (at j i) ≡ y → T (outranks q i j) ⊎ T (outranks q j i)
      choose i j n true y e f = inl (to i j (let l = ltb→lt (at j i) (at i j) (subst T (sym e) tt) in record { value = le_of_lt l; index = λ h. absurd (not-le_of_lt l h) }))
      choose i j n false true e f = inr (to j i (let l = ltb→lt (at i j) (at j i) (subst T (sym f) tt) in record { value = le_of_lt l; index = λ h. absurd (not-le_of_lt l h) }))
      choose i j n false false e f =
          let l : at i j ≤ at j i = nltb→le (at j i) (at i j) (subst (λ b. T (not b)) (sym e) tt) in
          let m : at j i ≤ at i j = nltb→le (at i j) (at j i) (subst (λ b. T (not b)) (sym f) tt) in
          by_index (ltb i j) refl l m
        where
          by_index : (b : Bool) → ltb i j ≡ b → at i j ≤ at j i → at j i ≤ at i j → T (outranks q i j) ⊎ T (outranks q j i)
          by_index true g l m = inl (to i j (record { value = m; index = λ h. ltb→lt i j (subst T (sym g) tt) }))
          by_index false g l m =
              let r : j ≤ i = nltb→le i j (subst (λ b. T (not b)) (sym g) tt) in
              inr (to j i (record { value = l; index = λ h. strict j i r (λ e. n (sym e)) }))
            where
              strict : (a b : ℕ) → a ≤ b → (a ≡ b → ⊥) → a < b
              strict a b l n = lt_of_le-ne l n
