-- How many digits a count has: one more than its tenth. Assumes nothing.
use mathlib.Core.Path.{◌≡◌, refl, ap, ◌∙◌}
use mathlib.Core.List.{[], ◌∷◌}
use Prim.Native.Nat.{ℕ, ◌+◌, ◌/◌, ◌%◌, ◌≤◌, ◌<◌}
use native.Mathlib.Omega.{arith}
use borrow.Author.Tests.{lt-ltb}
use lib.ListN.{length, length-append}
use Rattle.rules.specs.Line.{digits, plain}
use Rattle.rules.specs.Refusal.{most_points}
use Rattle.rule_laws.proofs.Digits.{digits_some, digits_short, digits_plain, plain_more}
use Rattle.write_ply_refusal.specs.Checks.{Digits}

-- a number below ten has one
plain_one : (n : ℕ) → n < 10 → length (plain n) ≡ 1
unfolding plain digits
plain_one n h = rw (lt-ltb n 10 h) refl

-- there is one at least
one_digit : (n : ℕ) → 1 ≤ length (plain n)
unfolding plain
one_digit n = digits_some 19 n

-- a count that is accepted has at most seven
seven : (n : ℕ) → n ≤ most_points → length (plain n) ≤ 7
seven n h = omega (arith, ap length (digits_plain 7 n (omega arith) (omega arith) (omega arith)), digits_short 7 n)

-- k digits less one are counted, and those of m are left
pub record Count (n m k : ℕ) : Type 0 where
  pub some : 1 ≤ k
  pub left : k + length (plain m) ≡ length (plain n) + 1
  pub few : m ≤ most_points
  pub short : k ≤ length (plain n)
  pub all : length (plain n) ≤ 7

-- before the first turn all are left
pub begin : {n : ℕ} → n ≤ most_points → Count n n 1
begin {n} h = record { some = omega arith; left = omega arith; few = h; short = one_digit n; all = seven n h }

-- a turn counts the last one
pub again : {n m k : ℕ} → Count n m k → 10 ≤ m → Count n (m / 10) (k + 1)
again {n} {m} {k} v h =
    let f = v.few in
    let e : length (plain m) ≡ length (plain (m / 10)) + 1 = ap length (plain_more m h (omega arith)) ∙ length-append (plain (m / 10)) ((48 + m % 10) ∷ []) in
    let l = v.left in
    let o = one_digit (m / 10) in
    record { some = omega arith; left = omega arith; few = omega arith; short = omega arith; all = v.all }

-- where one is left, all are counted
pub done : {n m k : ℕ} → Count n m k → m < 10 → Digits n k
done {n} {m} v h = record { long = omega (arith, v.left, plain_one m h); few = omega (arith, v.short, v.all) }
