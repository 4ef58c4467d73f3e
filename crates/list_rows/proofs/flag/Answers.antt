-- `list_rows::flag` meets its contract: the pass is on and unused points are flagged, or the flags are cleared. Assumes nothing.
use native.Mathlib.Omega.{arith}
use Rattle.list_rows.proofs.ByOption.{bit_on, bit_off, flags_on, flags_off}
use Rattle.list_rows.proofs.flag.Goals as goal

pub returns-then-options-eq1 : goal.returns-then-options-eq1
returns-then-options-eq1 c = flags_on (bit_on 5 c.args.options (omega arith)) c.mark_unused.ensures

pub returns : goal.returns
returns c = flags_off (bit_off 5 c.args.options (omega arith)) c.clear.ensures.only c.clear.ensures.filled
