-- `bytes::float` meets its contract: a NaN's pattern is read as such, and any other is a number's. Assumes nothing.
use Rattle.byte_rows.proofs.Reading.{no_number, number}
use Rattle.byte_rows.proofs.float.Goals as goal

pub returns-then-bits-gt9218868437227405312 : goal.returns-then-bits-gt9218868437227405312
returns-then-bits-gt9218868437227405312 c = no_number _ c.if-bits-gt9218868437227405312.true

pub float_from_bits-result : goal.float_from_bits-result
float_from_bits-result c = number _ c.if-bits-gt9218868437227405312.false
