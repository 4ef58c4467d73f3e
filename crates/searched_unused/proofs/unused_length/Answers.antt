-- `searched_unused::unused_length` meets its contract. The invariant: the lines of the points that were passed are added up. Assumes nothing.
use native.Mathlib.Omega.{arith}
use Rattle.searched_unused.proofs.Adding.{add_begin, add_again, add_done, line_short}
use Rattle.searched_unused.proofs.unused_length.Goals as goal

pub loop-v-init : goal.loop-v-init
loop-v-init c = add_begin _ _ _

pub overflow_cast-v : goal.overflow_cast-v
overflow_cast-v c = omega (arith, c.loop-v-test.true, c.requires.unused_asks.few)

pub unused_line-bytes-requires : goal.unused_line-bytes-requires
unused_line-bytes-requires c = record { worded = c.requires.unused_asks.worded; indexed = c.requires.indexed }

pub overflow_add-bytes : goal.overflow_add-bytes
overflow_add-bytes c = omega (arith, c.loop-v.invariant, c.loop-v-test.true, c.unused_line-bytes.ensures, line_short c.args.faces.now c.args.words.now c.loop-v.v, c.requires.unused_asks.few)

pub loop-v-preserved : goal.loop-v-preserved
loop-v-preserved c = add_again c.loop-v.invariant c.loop-v-test.true c.unused_line-bytes.ensures

pub returns : goal.returns
returns c = add_done c.loop-v.invariant c.loop-v-test.false
