-- Numbers in decimal: their digits, how many, the first, one digit more, and the number that they write. Assumes nothing.
use mathlib.Core.Path.{◌≡◌, refl, sym, ap, ◌∙◌}
use mathlib.Core.Bool.{Bool, true, false, cond}
use mathlib.Core.List.{List, [], ◌∷◌, ◌++◌}
use Prim.Native.Nat.{ℕ, zero, suc, ◌+◌, ◌-◌, ◌*◌, ◌/◌, ◌%◌, ◌^◌, ◌≤◌, ◌<◌}
use native.Mathlib.Omega.{arith}
use lib.Dec.{ltb}
use borrow.Author.Tests.{lt-ltb, le-ltb, ltb-true, ltb-false}
use lib.ListN.{length, get_or, length-append}
use Rattle.rules.specs.Lists.{through}
use Rattle.rules.specs.Line.{digits, decimal, plain}
use Rattle.rules.specs.Text.{of_decimal}
use Rattle.rule_laws.proofs.Lists.{through_append}
use Rattle.rule_laws.proofs.Rising.{All, all_append}

-- ---- the bytes

-- the byte of a digit
pub record Digit (b : ℕ) : Type 0 where
  pub low : 48 ≤ b
  pub high : b ≤ 57

-- the bytes written are digits: the last one, and those of the tenth
pub digits_are : (k n : ℕ) → All Digit (digits k n)
unfolding digits
digits_are zero n = tt
digits_are (suc k) n = go (ltb n 10) refl (digits_are k (n / 10))
  where
    go : (t : Bool) → ltb n 10 ≡ t → All Digit (digits k (n / 10)) → All Digit (cond t ((48 + n) ∷ []) (digits k (n / 10) ++ ((48 + n % 10) ∷ [])))
    go true e a = let l = ltb-true n 10 e in (record { low = omega arith; high = omega arith }, tt)
    go false e a = all_append Digit (digits k (n / 10)) ((48 + n % 10) ∷ []) a (record { low = omega arith; high = omega arith }, tt)

-- there is one at least: the last
pub digits_some : (k n : ℕ) → 0 < length (digits (suc k) n)
unfolding digits
digits_some k n = go (ltb n 10)
  where
    go : (t : Bool) → 0 < length (cond t ((48 + n) ∷ []) (digits k (n / 10) ++ ((48 + n % 10) ∷ [])))
    go true = omega arith
    go false = simp length-append (omega arith)

-- there is one where one is asked for
digits_any : (k n : ℕ) → 0 < k → 0 < length (digits k n)
digits_any zero n h = absurd (omega arith)
digits_any (suc k) n h = digits_some k n

-- k digits are at most k bytes: one for each
pub digits_short : (k n : ℕ) → length (digits k n) ≤ k
unfolding digits
digits_short zero n = omega arith
digits_short (suc k) n = go (ltb n 10) (digits_short k (n / 10))
  where
    go : (b : Bool) → length (digits k (n / 10)) ≤ k → length (cond b ((48 + n) ∷ []) (digits k (n / 10) ++ ((48 + n % 10) ∷ []))) ≤ suc k
    go true h = omega arith
    go false h = simp length-append (omega arith)

-- a number of two digits or more has a tenth
tenth : (k n : ℕ) → 10 ≤ n → n < 10 ^ suc k → 0 < k
tenth zero n h l = omega arith
tenth (suc k) n h l = omega arith

-- the first byte of two fields, one behind the other
get_or_first : (xs ys : List ℕ) → 0 < length xs → get_or (xs ++ ys) 0 0 ≡ get_or xs 0 0
get_or_first [] ys h = absurd (omega arith)
get_or_first (x ∷ xs) ys h = refl

-- a number that is not zero does not begin with one: by the tenth of the number
pub digits_lead : (k n : ℕ) → 0 < n → n < 10 ^ k → get_or (digits k n) 0 0 ≡ 48 → ⊥
unfolding digits
digits_lead zero n p h e = omega arith
digits_lead (suc k) n p h e = go (ltb n 10) refl e (digits_lead k (n / 10))
  where
    go : (t : Bool) → ltb n 10 ≡ t → get_or (cond t ((48 + n) ∷ []) (digits k (n / 10) ++ ((48 + n % 10) ∷ []))) 0 0 ≡ 48 → (0 < n / 10 → n / 10 < 10 ^ k → get_or (digits k (n / 10)) 0 0 ≡ 48 → ⊥) → ⊥
    go true q d f = omega arith
    go false q d f =
        let l = ltb-false n 10 q in
        f (omega arith) (omega arith) (sym (get_or_first (digits k (n / 10)) ((48 + n % 10) ∷ []) (digits_any k (n / 10) (tenth k n l h))) ∙ d)

-- ---- how many are enough

-- a digit more is not needed: by the tenth of the number
enough : (k n : ℕ) → n < 10 ^ suc k → digits (suc (suc k)) n ≡ digits (suc k) n
unfolding digits
enough zero n h = rw (lt-ltb n 10 (omega arith))
enough (suc k) n h = ap (λ (z : List ℕ). cond (ltb n 10) ((48 + n) ∷ []) (z ++ ((48 + n % 10) ∷ []))) (enough k (n / 10) (omega arith))

-- powers of ten rise
pub tens : (i j : ℕ) → i ≤ j → 10 ^ i ≤ 10 ^ j
tens zero zero h = omega arith
tens zero (suc j) h = omega (arith, tens zero j (omega arith))
tens (suc i) zero h = omega arith
tens (suc i) (suc j) h = omega (arith, tens i j (omega arith))

-- nor are several
enough_more : (m k n : ℕ) → n < 10 ^ suc k → digits (suc (m + k)) n ≡ digits (suc k) n
enough_more zero k n h =
    let e : 0 + k ≡ k = omega arith in
    rw e refl
enough_more (suc m) k n h =
    let e : suc m + k ≡ suc (m + k) = omega arith in
    rw e (enough (m + k) n (omega (arith, tens (suc k) (suc (m + k)) (omega arith))) ∙ enough_more m k n h)

-- of a number that has no more than k digits, k are as good as any larger number of them
digits_as : (k m n : ℕ) → 0 < k → k ≤ m → n < 10 ^ k → digits k n ≡ digits m n
digits_as zero m n p q h = absurd (omega arith)
digits_as (suc k) m n p q h =
    let e : suc (m - suc k + k) ≡ m = omega arith in
    sym (rw e at (enough_more (m - suc k) k n h))

-- k digits of a number that has no more are the number in plain decimal
pub digits_plain : (k n : ℕ) → 0 < k → k ≤ 20 → n < 10 ^ k → digits k n ≡ plain n
unfolding plain
digits_plain k n p q h = digits_as k 20 n p q h

-- ten digits and twenty are the same where ten are enough
pub plain_decimal : (n : ℕ) → n < 10 ^ 10 → decimal n ≡ plain n
unfolding decimal
plain_decimal n h = digits_plain 10 n (omega arith) (omega arith) h

-- ---- one digit, or the digits of the tenth and a last one

-- a number of two digits or more is its tenth in a digit less, and a digit
last : (k n : ℕ) → 10 ≤ n → digits (suc k) n ≡ digits k (n / 10) ++ ((48 + n % 10) ∷ [])
unfolding digits
last k n h = rw (le-ltb n 10 h)

-- a number below ten is one digit
pub decimal_one : (n : ℕ) → n < 10 → decimal n ≡ (48 + n) ∷ []
unfolding decimal digits
decimal_one n h = rw (lt-ltb n 10 h)

-- one of at most ten digits is its tenth in decimal, and a digit
pub decimal_more : (n : ℕ) → 10 ≤ n → n < 10 ^ 10 → decimal n ≡ decimal (n / 10) ++ ((48 + n % 10) ∷ [])
unfolding decimal
decimal_more n h b = last 9 n h ∙ ap (λ (z : List ℕ). z ++ ((48 + n % 10) ∷ [])) (sym (enough 8 (n / 10) (omega arith)))

-- and one of at most twenty its tenth in plain decimal, and a digit
pub plain_more : (n : ℕ) → 10 ≤ n → n < 10 ^ 20 → plain n ≡ plain (n / 10) ++ ((48 + n % 10) ∷ [])
unfolding plain
plain_more n h b = last 19 n h ∙ ap (λ (z : List ℕ). z ++ ((48 + n % 10) ∷ [])) (sym (enough 18 (n / 10) (omega arith)))

-- a number in decimal is at most ten bytes
pub decimal_short : (n : ℕ) → length (decimal n) ≤ 10
unfolding decimal
decimal_short n = digits_short 10 n

-- a digit more is written behind the others
pub digits_more : (i n d : ℕ) → d < 10 → (0 < i → 0 < n) → n < 10 ^ i → (i ≡ 0 → 0 < d) → digits (suc i) (10 * n + d) ≡ digits i n ++ ((48 + d) ∷ [])
unfolding digits
digits_more zero n d h p z f =
    let e : n ≡ 0 = omega arith in
    let t : 10 * n + d ≡ d = omega arith in
    rw (t, lt-ltb d 10 h) refl
digits_more (suc i) n d h p z f =
    let l = p (omega arith) in
    let q : (10 * n + d) / 10 ≡ n = omega arith in
    let r : (10 * n + d) % 10 ≡ d = omega arith in
    rw (le-ltb (10 * n + d) 10 (omega arith), q, r) refl

-- ---- the number that they write

-- a byte more is a digit more of the number
of_decimal_more : (xs : List ℕ) (b : ℕ) → of_decimal (xs ++ (b ∷ [])) ≡ 10 * of_decimal xs + (b - 48)
unfolding of_decimal through
of_decimal_more xs b = through_append (λ n c. 10 * n + (c - 48)) 0 xs (b ∷ [])

-- the number that digits write is the one that they were made of: the tenth's, and the last one
pub digits_of : (k n : ℕ) → n < 10 ^ k → of_decimal (digits k n) ≡ n
unfolding digits
digits_of zero n h = unfold of_decimal through in omega arith
digits_of (suc k) n h = go (ltb n 10) refl (digits_of k (n / 10))
  where
    go : (t : Bool) → ltb n 10 ≡ t → (n / 10 < 10 ^ k → of_decimal (digits k (n / 10)) ≡ n / 10) → of_decimal (cond t ((48 + n) ∷ []) (digits k (n / 10) ++ ((48 + n % 10) ∷ []))) ≡ n
    go true e f = unfold of_decimal through in omega arith
    go false e f = of_decimal_more (digits k (n / 10)) (48 + n % 10) ∙ rw (f (omega arith)) (omega arith)
