-- `text_out::put_counts` meets its contract: the first counts are put. Assumes nothing.
use native.Mathlib.Omega.{arith}
use Rattle.text_out.proofs.Lines.{begin, field, count_again, counts_done, count_asks}
use Rattle.text_out.proofs.put_counts.Goals as goal

pub loop-count-init : goal.loop-count-init
loop-count-init c = begin field _ 11 (omega (arith, c.requires))

pub put_whole-next-requires : goal.put_whole-next-requires
put_whole-next-requires c = count_asks c.requires c.loop-count.invariant c.loop-count-test.true

pub loop-count-preserved : goal.loop-count-preserved
loop-count-preserved c = count_again c.loop-count.invariant c.loop-count-test.true c.put_whole-next.ensures

pub shape_of-out : goal.shape_of-out
shape_of-out c = c.loop-count.invariant.puts.only.long

pub returns : goal.returns
returns c = counts_done c.loop-count.invariant c.loop-count-test.false
