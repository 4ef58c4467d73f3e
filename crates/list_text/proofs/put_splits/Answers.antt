-- `list_text::put_splits` meets its contract: the lines before j are put, and the cursor is at the corners of the next new point. Assumes nothing.
use native.Mathlib.Omega.{arith}
use Rattle.list_text.proofs.Splits.{first_asks, next_asks, split_asks, place_begin, place_room, place_on, place_done}
use Rattle.list_text.proofs.put_splits.Goals as goal

pub corners_below-from-requires : goal.corners_below-from-requires
corners_below-from-requires c = first_asks c.requires.splits_ask

pub loop-j-init : goal.loop-j-init
loop-j-init c = place_begin c.requires.splits_ask c.requires.rows_in_bounds c.corners_below-from.ensures

pub overflow_add-rows : goal.overflow_add-rows
overflow_add-rows c = omega (arith, c.requires.splits_ask.few_points, c.loop-j-test.true)

pub overflow_add-rows-in-loop-j : goal.overflow_add-rows-in-loop-j
overflow_add-rows-in-loop-j c = omega (arith, c.requires.splits_ask.few_points, c.loop-j-test.true)

pub corners_below-to-requires : goal.corners_below-to-requires
corners_below-to-requires c = next_asks c.requires.splits_ask c.loop-j.invariant.cursor c.loop-j-test.true

pub put_split-next-requires : goal.put_split-next-requires
put_split-next-requires c = record { split_asks = split_asks c.requires.splits_ask c.loop-j.invariant.cursor c.loop-j-test.true c.corners_below-to.ensures; to_in_bounds = place_room c.requires.splits_ask c.loop-j.invariant c.loop-j-test.true c.corners_below-to.ensures }

pub loop-j-preserved : goal.loop-j-preserved
loop-j-preserved c = place_on c.requires.splits_ask c.loop-j.invariant c.loop-j-test.true c.corners_below-to.ensures c.put_split-next.ensures

pub shape_of-text : goal.shape_of-text
shape_of-text c = c.loop-j.invariant.rowed.sofar.puts.only.long

pub returns : goal.returns
returns c = place_done c.requires.splits_ask c.loop-j.invariant c.loop-j-test.false
