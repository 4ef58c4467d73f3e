-- `number_length` meets its contract: one digit, else those of a tenth and one more. Assumes nothing.
use mathlib.Core.Path.{sym, ap}
use mathlib.Core.List.{[], ◌∷◌}
use Prim.Native.Nat.{◌+◌, ◌/◌, ◌%◌}
use native.Mathlib.Omega.{arith}
use lib.ListN.{length, length-append}
use Rattle.rules.specs.Line.{decimal}
use Rattle.rule_laws.proofs.Digits.{decimal_one, decimal_more, decimal_short}
use Rattle.byte_rows.proofs.+number_length.Goals as goal

-- one digit
pub returns-then-n-lt10 : goal.returns-then-n-lt10
returns-then-n-lt10 t c = sym (ap length (decimal_one c.args.n c.if-n-lt10.true))

-- the digits of a tenth are few
pub overflow_add-result : goal.overflow_add-result
overflow_add-result t c = omega (arith, c.number_length.ensures, decimal_short (c.args.n / 10))

-- a digit more
pub returns-else-n-lt10 : goal.returns-else-n-lt10
returns-else-n-lt10 t c =
    let n = c.args.n in
    omega (arith, c.number_length.ensures, ap length (decimal_more n c.if-n-lt10.false (omega arith)), length-append (decimal (n / 10)) ((48 + n % 10) ∷ []))
