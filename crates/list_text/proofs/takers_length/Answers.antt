-- `list_text::takers_length` meets its contract: the lengths of the fields at the corners before q are summed. Assumes nothing.
use native.Mathlib.Omega.{arith}
use Rattle.list_text.proofs.Takers.{corner_at, measure_begin, measure_on, measure_done}
use Rattle.list_text.proofs.takers_length.Goals as goal

pub loop-q-init : goal.loop-q-init
loop-q-init c = measure_begin c.requires

pub overflow_add-i : goal.overflow_add-i
overflow_add-i c = omega (arith, corner_at c.requires c.loop-q.q c.loop-q-test.true)

pub offset_bounds-work-rows : goal.offset_bounds-work-rows
offset_bounds-work-rows c = omega (arith, corner_at c.requires c.loop-q.q c.loop-q-test.true)

pub bounds-work-rows : goal.bounds-work-rows
bounds-work-rows c = omega (arith, corner_at c.requires c.loop-q.q c.loop-q-test.true)

pub overflow_cast-i : goal.overflow_cast-i
overflow_cast-i c = omega (arith, corner_at c.requires c.loop-q.q c.loop-q-test.true)

pub taker_length-total-requires : goal.taker_length-total-requires
taker_length-total-requires c = omega (arith, corner_at c.requires c.loop-q.q c.loop-q-test.true)

pub overflow_add-total : goal.overflow_add-total
overflow_add-total c = omega (arith, c.loop-q.invariant.small, c.taker_length-total.ensures.upper_bound, c.loop-q-test.true, c.requires.inside, c.requires.sorted.few)

pub loop-q-preserved : goal.loop-q-preserved
loop-q-preserved c = measure_on c.requires c.loop-q.invariant c.loop-q-test.true c.taker_length-total.ensures.value

pub returns : goal.returns
returns c = let both = measure_done c.requires c.loop-q.invariant c.loop-q-test.false in record { value = both.0; from_bound = both.1 }
