-- `put_number` meets its contract: one digit by itself, else the digits of a tenth and the last one. Assumes nothing.
use native.Mathlib.Omega.{arith}
use Rattle.rule_laws.proofs.Digits.{decimal_one}
use Rattle.byte_rows.proofs.Numbers.{one_asks, tenth_asks, last_asks, number_done}
use Rattle.byte_rows.proofs.+put_number.Goals as goal

-- a digit has room
pub put_digit-requires : goal.put_digit-requires
put_digit-requires t c = one_asks c.requires c.if-n-lt10.true

-- one digit is the number
pub returns-then-n-lt10 : goal.returns-then-n-lt10
returns-then-n-lt10 t c = rw (decimal_one _ c.if-n-lt10.true) c.put_digit.ensures

-- a tenth is less, and has room
pub put_number-next-requires : goal.put_number-next-requires
put_number-next-requires t c = (omega arith, tenth_asks c.requires c.if-n-lt10.false)

-- the last digit has room behind the tenth's
pub put_digit-requires-2 : goal.put_digit-requires-2
put_digit-requires-2 t c = last_asks c.requires c.if-n-lt10.false c.put_number-next.ensures

-- both together are the number
pub returns : goal.returns
returns t c = number_done c.requires c.if-n-lt10.false c.put_number-next.ensures c.put_digit-2.ensures
