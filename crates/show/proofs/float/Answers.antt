-- `show::float` asks for the bits of what is no NaN. Assumes nothing.
use Rattle.root.proofs.Units.{no_nan_same}
use Rattle.show.proofs.float.Goals as goal

pub float_to_bits-bits : goal.float_to_bits-bits
float_to_bits-bits g c = no_nan_same _ c.if-x.false
