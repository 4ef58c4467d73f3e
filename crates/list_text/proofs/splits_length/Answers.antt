-- `list_text::splits_length` meets its contract: the lengths of the lines before j are summed, and the cursor is at the corners of the next new point. Assumes nothing.
use native.Mathlib.Omega.{arith}
use Rattle.list_text.proofs.Splits.{first_asks, next_asks, split_asks, total_begin, total_on, total_small, total_done}
use Rattle.list_text.proofs.splits_length.Goals as goal

pub corners_below-from-requires : goal.corners_below-from-requires
corners_below-from-requires c = first_asks c.requires

pub loop-j-init : goal.loop-j-init
loop-j-init c = total_begin c.requires c.corners_below-from.ensures

pub overflow_add-rows : goal.overflow_add-rows
overflow_add-rows c = omega (arith, c.requires.few_points, c.loop-j-test.true)

pub overflow_add-rows-in-loop-j : goal.overflow_add-rows-in-loop-j
overflow_add-rows-in-loop-j c = omega (arith, c.requires.few_points, c.loop-j-test.true)

pub corners_below-to-requires : goal.corners_below-to-requires
corners_below-to-requires c = next_asks c.requires c.loop-j.invariant.cursor c.loop-j-test.true

pub split_length-total-requires : goal.split_length-total-requires
split_length-total-requires c = split_asks c.requires c.loop-j.invariant.cursor c.loop-j-test.true c.corners_below-to.ensures

pub overflow_add-total : goal.overflow_add-total
overflow_add-total c = omega (arith, total_small c.requires (total_on c.requires c.loop-j.invariant c.loop-j-test.true c.corners_below-to.ensures c.split_length-total.ensures.value c.split_length-total.ensures.from_bound) (omega (arith, c.loop-j-test.true)), c.loop-j-test.true, c.requires.few_points, c.requires.sorted.few)

pub loop-j-preserved : goal.loop-j-preserved
loop-j-preserved c = total_on c.requires c.loop-j.invariant c.loop-j-test.true c.corners_below-to.ensures c.split_length-total.ensures.value c.split_length-total.ensures.from_bound

pub returns : goal.returns
returns c = let both = total_done c.requires c.loop-j.invariant c.loop-j-test.false in record { value = both.0; upper_bound = both.1 }
