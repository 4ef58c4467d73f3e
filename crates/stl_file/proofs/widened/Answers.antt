-- `stl_file::widened` meets its contract: a NaN is read as such, and any other f32 is an f64. Assumes nothing.
use Rattle.stl_file.proofs.Reading.{is_nan_is_nan, no_nan_bits, widens}
use Rattle.stl_file.proofs.widened.Goals as goal

pub returns-then-bits-gt2139095040 : goal.returns-then-bits-gt2139095040
returns-then-bits-gt2139095040 c = is_nan_is_nan _ c.if-bits-gt2139095040.true

pub float_from_bits-result : goal.float_from_bits-result
float_from_bits-result c = no_nan_bits _ c.if-bits-gt2139095040.false

pub float_to_float-result : goal.float_to_float-result
float_to_float-result c = widens _ c.if-bits-gt2139095040.false
