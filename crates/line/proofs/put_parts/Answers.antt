-- `line::put_parts` meets its contract: after k labels the line of their numbers stands in front. Assumes nothing.
use Rattle.line.proofs.Whole.{begin, turn, again, done}
use Rattle.line.proofs.put_parts.Goals as goal

pub loop-k-init : goal.loop-k-init
loop-k-init c = begin c.requires

pub value-requires : goal.value-requires
value-requires c = (turn c.requires c.loop-k.invariant c.loop-k-test.true).count

pub put_next-at-requires : goal.put_next-at-requires
put_next-at-requires c = record { part_asks = (turn c.requires c.loop-k.invariant c.loop-k-test.true).asks; n_bound = c.value.ensures.upper_bound }

pub loop-k-preserved : goal.loop-k-preserved
loop-k-preserved c = again c.requires c.loop-k.invariant c.loop-k-test.true c.value.ensures.value c.put_next-at.ensures

pub shape_of-line : goal.shape_of-line
shape_of-line c = c.loop-k.invariant.puts.only.long

pub returns : goal.returns
returns c = done c.requires c.loop-k.invariant c.loop-k-test.false
