-- `read_stl_try::show_float` meets its contract: a number that is no NaN has bits. Assumes nothing.
use Rattle.root.proofs.Units.{no_nan_same}
use Rattle.read_stl_try.proofs.show_float.Goals as goal

pub float_to_bits-bits : goal.float_to_bits-bits
float_to_bits-bits g c = no_nan_same _ c.if-x.false
