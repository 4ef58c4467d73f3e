-- `root::guess` meets its contract, which says only how large the guess is. Assumes nothing.
use Prim.Native.Nat.{◌-◌, ◌/◌}
use native.Mathlib.Omega.{arith}
use Rattle.root.proofs.Units.{no_nan_below, no_nan_same}
use Rattle.root.proofs.guess.Goals as goal

-- the pattern b is that of a number
pub float_from_bits-v : goal.float_from_bits-v
float_from_bits-v c = no_nan_below c.args.b (omega arith)

-- what is left is the pattern of a number
pub float_from_bits-a : goal.float_from_bits-a
float_from_bits-a c = no_nan_below (0x5fe6_eb50_c7b5_37a9 - c.args.b / 2) (omega arith)

-- y equals itself, so it is a number
pub float_to_bits-result : goal.float_to_bits-result
float_to_bits-result c = no_nan_same _ c.if-y.false
