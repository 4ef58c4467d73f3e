-- How many rank before a patch, by the cut: few before one above it, many before one below it, and at it those above and the earlier ones at it.
-- Assumes nothing.
use mathlib.Core.Path.{◌≡◌, refl, sym, ap, ◌∙◌}
use mathlib.Core.Bool.{Bool, true, false, not, ◌&&◌, ◌||◌, cond}
use mathlib.Core.Logic.{◌⊎◌, inl, inr}
use Prim.Native.Nat.{ℕ, zero, suc, ◌+◌, ◌≤◌, ◌<◌}
use native.Mathlib.Nat.{le_of_suc-le-suc, eq-or-lt_of_le}
use native.Mathlib.Omega.{arith}
use native.Mathlib.Decide.{dec_lt}
use borrow.Author.Tests.{lt-ltb, le-ltb, le-leb, lt-leb, eq-eqb, ne_eqb}
use lib.Dec.{T, eqb, leb, ltb, leb→le, le→leb, ltb→lt, nltb→le}
use Rattle.rules.specs.Lists.{below, filter, count}
use Rattle.rule_laws.proofs.Lists.{count_below}
use Rattle.rule_laws.proofs.Counting.{count_le, count_below_agree}
use Rattle.patch_rank.specs.Rank.{before, reach, rank, Cut, flag_of}

-- one that ranks before another has no smaller key
before_key : (a b i j : ℕ) → T (ltb b a || not (ltb a b) && ltb i j) → b ≤ a
before_key a b i j t = go (ltb b a) (ltb a b) (ltb→lt b a) (nltb→le a b) t
  where
    go : (x y : Bool) → (T x → b < a) → (T (not y) → b ≤ a) → T (x || not y && ltb i j) → b ≤ a
    go true y l n t = let h = l tt in omega arith
    go false false l n t = n tt
    go false true l n t = absurd t

-- one with a larger key ranks before
key_before : (a b i j : ℕ) → b < a → T (ltb b a || not (ltb a b) && ltb i j)
key_before a b i j h = rw (lt-ltb b a h) tt

module _ (key : ℕ → ℕ) (k t : ℕ) where
  -- above the cut
  pub few_before : (C : ℕ) → t < key k → rank key C k ≤ reach key C (t + 1)
  few_before C h =
      count_le (λ j. before key j k) (λ j. leb (t + 1) (key j)) (below C)
      (λ j m b. let l = before_key (key j) (key k) j k b in le→leb (t + 1) (key j) (omega arith))

  -- below it
  pub many_before : (C : ℕ) → key k < t → reach key C t ≤ rank key C k
  many_before C h =
      count_le (λ j. leb t (key j)) (λ j. before key j k) (below C)
      (λ j m b. let l = leb→le t (key j) b in key_before (key j) (key k) j k (omega arith))

  module _ (e : key k ≡ t) where
    -- one is before k if it is above the cut, or at it and earlier
    parts : (j : ℕ) → cond (before key j k) 1 0 ≡ cond (leb (t + 1) (key j)) 1 0 + cond (eqb (key j) t && ltb j k) 1 0
    parts j = rw e (go (key j) (ltb j k))
      where
        go : (a : ℕ) (b : Bool) → cond (ltb t a || not (ltb a t) && b) 1 0 ≡ cond (leb (t + 1) a) 1 0 + cond (eqb a t && b) 1 0
        go a b = by (dec_lt t a) (dec_lt a t)
          where
            by : Dec (t < a) → Dec (a < t) → cond (ltb t a || not (ltb a t) && b) 1 0 ≡ cond (leb (t + 1) a) 1 0 + cond (eqb a t && b) 1 0
            by (yes h) d = rw (lt-ltb t a h, le-leb (t + 1) a (omega arith), ne_eqb a t (omega arith))
            by (no h) (yes l) = rw (le-ltb t a (omega arith), lt-ltb a t l, lt-leb (t + 1) a (omega arith), ne_eqb a t (omega arith))
            by (no h) (no l) = let q : a ≡ t = omega arith in rw (le-ltb t a (omega arith), le-ltb a t (omega arith), lt-leb (t + 1) a (omega arith), eq-eqb a t q) (last b)
              where
                last : (b : Bool) → cond b 1 0 ≡ 0 + cond b 1 0
                last true = refl
                last false = refl

    -- so for the counts of the first m
    counts : (m : ℕ) → rank key m k ≡ reach key m (t + 1) + count (λ j. eqb (key j) t && ltb j k) (below m)
    counts zero = unfold below count filter in refl
    counts (suc m) =
        omega
        (arith, count_below (λ j. before key j k) m, count_below (λ j. leb (t + 1) (key j)) m, count_below (λ j. eqb (key j) t && ltb j k) m, parts m, counts m)

    -- those from k on are not earlier
    earlier : (m : ℕ) → k ≤ m → count (λ j. eqb (key j) t && ltb j k) (below m) ≡ count (λ j. eqb (key j) t) (below k)
    earlier m l = go m l
      where
        all_earlier : count (λ j. eqb (key j) t && ltb j k) (below k) ≡ count (λ j. eqb (key j) t) (below k)
        all_earlier = count_below_agree (λ j. eqb (key j) t && ltb j k) (λ j. eqb (key j) t) k (λ j h. rw (lt-ltb j k h) (and_true (eqb (key j) t)))
          where
            and_true : (b : Bool) → (b && true) ≡ b
            and_true true = refl
            and_true false = refl

        none : (m : ℕ) → k ≤ m → ◌≡◌ {A = ℕ} (cond (eqb (key m) t && ltb m k) 1 0) 0
        none m h = rw (le-ltb m k h) (and_false (eqb (key m) t))
          where
            and_false : (b : Bool) → ◌≡◌ {A = ℕ} (cond (b && false) 1 0) 0
            and_false true = refl
            and_false false = refl

        go : (m : ℕ) → k ≤ m → count (λ j. eqb (key j) t && ltb j k) (below m) ≡ count (λ j. eqb (key j) t) (below k)
        go zero h = let q : 0 ≡ k = omega arith in ap (λ n. count (λ j. eqb (key j) t && ltb j k) (below n)) q ∙ all_earlier
        go (suc m) h = by (go m) (eq-or-lt_of_le h)
          where
            by :
                (k ≤ m → count (λ j. eqb (key j) t && ltb j k) (below m) ≡ count (λ j. eqb (key j) t) (below k)) → (k ≡ suc m) ⊎ (k < suc m)
                → count (λ j. eqb (key j) t && ltb j k) (below (suc m)) ≡ count (λ j. eqb (key j) t) (below k)
            by r (inl q) = ap (λ n. count (λ j. eqb (key j) t && ltb j k) (below n)) (sym q) ∙ all_earlier
            by r (inr l) = omega (arith, count_below (λ j. eqb (key j) t && ltb j k) m, none m (le_of_suc-le-suc l), r (le_of_suc-le-suc l))

    -- at the cut
    pub place_is : (C : ℕ) → k < C → rank key C k ≡ reach key C (t + 1) + count (λ j. eqb (key j) t) (below k)
    place_is C h = omega (arith, counts C, earlier C (omega arith))

-- the flag of patch k, by the cut
pub flag_is :
    (key : ℕ → ℕ) (C n t k : ℕ) → Cut key C n t → k < C
    → flag_of (key k) t (reach key C (t + 1) + count (λ j. eqb (key j) t) (below k)) n ≡ cond (leb n (rank key C k)) 0 1
flag_is key C n t k c h = by (dec_lt t (key k)) (dec_lt (key k) t)
  where
    by :
        Dec (t < key k) → Dec (key k < t)
        → flag_of (key k) t (reach key C (t + 1) + count (λ j. eqb (key j) t) (below k)) n ≡ cond (leb n (rank key C k)) 0 1
    by (yes a) d = rw (lt-ltb t (key k) a, lt-leb n (rank key C k) (omega (arith, few_before key k t C a, c.passed)))
    by (no a) (yes b) = rw (le-ltb t (key k) (omega arith), lt-ltb (key k) t b, le-leb n (rank key C k) (omega (arith, many_before key k t C b, c.reached)))
    by (no a) (no b) =
        let e : key k ≡ t = omega arith in
        rw (le-ltb t (key k) (omega arith), le-ltb (key k) t (omega arith), ← place_is key k t e C h) (last (rank key C k) (dec_lt (rank key C k) n))
      where
        last : (r : ℕ) → Dec (r < n) → ◌≡◌ {A = ℕ} (cond (ltb r n) 1 0) (cond (leb n r) 0 1)
        last r (yes l) = rw (lt-ltb r n l, lt-leb n r l)
        last r (no l) = rw (le-ltb r n (omega arith), le-leb n r (omega arith))
