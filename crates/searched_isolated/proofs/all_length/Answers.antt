-- `searched_isolated::all_length` meets its contract: point after point. Assumes nothing.
use native.Mathlib.Omega.{arith}
use Rattle.rule_laws.proofs.Digits.{decimal_short}
use Rattle.searched_isolated.proofs.Lines.{begin, again, done}
use Rattle.searched_isolated.proofs.all_length.Goals as goal

-- src/lib.rt:22:5
pub loop-v-init : goal.loop-v-init
loop-v-init c = begin c.args.points

-- src/lib.rt:23:17
pub overflow_add-bytes : goal.overflow_add-bytes
overflow_add-bytes c = omega (arith, c.number_length.ensures, decimal_short c.loop-v.v)

-- src/lib.rt:23:43
pub overflow_cast-v : goal.overflow_cast-v
overflow_cast-v c = omega (arith, c.requires, c.loop-v-test.true)

-- src/lib.rt:23:29
pub number_length-requires : goal.number_length-requires
number_length-requires c = tt

-- src/lib.rt:23:17
pub overflow_add-bytes-in-loop-v : goal.overflow_add-bytes-in-loop-v
overflow_add-bytes-in-loop-v c = omega (arith, c.requires, c.loop-v.invariant.few, c.loop-v-test.true, c.number_length.ensures, decimal_short c.loop-v.v)

-- src/lib.rt:22:5
pub loop-v-preserved : goal.loop-v-preserved
loop-v-preserved c = again c.loop-v.invariant c.loop-v-test.true c.number_length.ensures

-- src/lib.rt:16:1
pub returns : goal.returns
returns c = done c.loop-v.invariant c.loop-v-test.false
