-- `searched_lines::degenerate_length` meets its contract. The invariant: the lines of the faces that were passed are added up. Assumes nothing.
use native.Mathlib.Omega.{arith}
use Rattle.searched_lines.proofs.Texts.{degenerate_short}
use Rattle.searched_lines.proofs.Summing.{sum_begin, sum_again, sum_done}
use Rattle.searched_lines.proofs.degenerate_length.Goals as goal

pub loop-f-init : goal.loop-f-init
loop-f-init c = sum_begin _ _

pub degenerate_line-bytes-requires : goal.degenerate_line-bytes-requires
degenerate_line-bytes-requires c = record { asks = c.requires; here = c.loop-f-test.true }

pub overflow_add-bytes : goal.overflow_add-bytes
overflow_add-bytes c = omega (arith, c.loop-f.invariant, c.degenerate_line-bytes.ensures, degenerate_short c.args.s c.args.points.now c.args.faces.now c.args.words.now c.loop-f.f, c.requires.worded.few)

pub loop-f-preserved : goal.loop-f-preserved
loop-f-preserved c = sum_again c.loop-f.invariant c.loop-f-test.true c.degenerate_line-bytes.ensures (degenerate_short c.args.s c.args.points.now c.args.faces.now c.args.words.now c.loop-f.f)

pub returns : goal.returns
returns c = sum_done c.loop-f.invariant c.loop-f-test.false
