-- `list_rows::split` meets its contract: the pass is on and points are split off, or it is off. Assumes nothing.
use native.Mathlib.Omega.{arith}
use Rattle.list_rows.proofs.ByOption.{bit_on, bit_off, split_on, split_off}
use Rattle.list_rows.proofs.split.Goals as goal

pub returns-then-options-eq1 : goal.returns-then-options-eq1
returns-then-options-eq1 c = split_on c.requires (bit_on 3 c.args.options (omega arith)) c.split_rows.ensures

pub returns : goal.returns
returns c = split_off c.requires (bit_off 3 c.args.options (omega arith))
