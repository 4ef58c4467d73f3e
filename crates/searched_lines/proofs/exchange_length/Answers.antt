-- `searched_lines::exchange_length` meets its contract. The invariant: the lines of the faces that were passed are added up. Assumes nothing.
use native.Mathlib.Omega.{arith}
use Rattle.searched_lines.proofs.Texts.{exchange_short}
use Rattle.searched_lines.proofs.Summing.{sum_begin, sum_again, sum_done}
use Rattle.searched_lines.proofs.exchange_length.Goals as goal

pub loop-f-init : goal.loop-f-init
loop-f-init c = sum_begin _ _

pub exchange_line-bytes-requires : goal.exchange_line-bytes-requires
exchange_line-bytes-requires c = record { worded = c.requires; here = c.loop-f-test.true }

pub overflow_add-bytes : goal.overflow_add-bytes
overflow_add-bytes c = omega (arith, c.loop-f.invariant, c.exchange_line-bytes.ensures, exchange_short c.args.faces.now c.args.words.now c.loop-f.f, c.requires.few)

pub loop-f-preserved : goal.loop-f-preserved
loop-f-preserved c = sum_again c.loop-f.invariant c.loop-f-test.true c.exchange_line-bytes.ensures (exchange_short c.args.faces.now c.args.words.now c.loop-f.f)

pub returns : goal.returns
returns c = sum_done c.loop-f.invariant c.loop-f-test.false
