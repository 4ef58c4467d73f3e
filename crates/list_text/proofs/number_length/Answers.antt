-- `list_text::number_length` meets its contract: the digits counted and those of what is left are one more than the number's. Assumes nothing.
use mathlib.Core.Path.{◌≡◌, ap}
use Prim.Native.Nat.{ℕ, ◌+◌, ◌/◌, ◌%◌, ◌≤◌, ◌<◌}
use native.Mathlib.Omega.{arith}
use lib.ListN.{length, length-append}
use mathlib.Core.List.{[], ◌∷◌}
use Rattle.rules.specs.Line.{decimal}
use Rattle.rule_laws.proofs.Digits.{decimal_one, decimal_more, decimal_short}
use Rattle.list_text.proofs.number_length.Invariants.{Inv}
use Rattle.list_text.proofs.number_length.Goals as goal

-- a digit more
again : {n m k : ℕ} → Inv n m k → 10 ≤ m → Inv n (m / 10) (k + 1)
again {n} {m} {k} v h =
    let s = v.small in
    record {
      small = omega arith;
      sum = omega (arith, v.sum, ap length (decimal_more m h s), length-append (decimal (m / 10)) ((48 + m % 10) ∷ []));
    }

-- the last one
done : {n m k : ℕ} → Inv n m k → m < 10 → k ≡ length (decimal n)
done {n} {m} {k} v h = omega (arith, v.sum, ap length (decimal_one m h))

pub loop-m-init : goal.loop-m-init
loop-m-init c = record { small = omega arith; sum = omega arith }

pub overflow_add-k : goal.overflow_add-k
overflow_add-k c = omega (arith, c.loop-m.invariant.sum, decimal_short c.args.n)

pub loop-m-smaller : goal.loop-m-smaller
loop-m-smaller c = omega (arith, c.loop-m-test.true)

pub loop-m-preserved : goal.loop-m-preserved
loop-m-preserved c = again c.loop-m.invariant c.loop-m-test.true

pub returns : goal.returns
returns c = done c.loop-m.invariant c.loop-m-test.false
