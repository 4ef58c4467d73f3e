-- `list_text::put_takers` meets its contract: the fields at the corners before q are put. Assumes nothing.
use native.Mathlib.Omega.{arith}
use Rattle.list_text.proofs.Takers.{corner_at, take_begin, take_room, take_on, take_done}
use Rattle.list_text.proofs.put_takers.Goals as goal

pub loop-q-init : goal.loop-q-init
loop-q-init c = take_begin c.requires.run_asks c.requires.to_in_bounds

pub overflow_add-i : goal.overflow_add-i
overflow_add-i c = omega (arith, corner_at c.requires.run_asks c.loop-q.q c.loop-q-test.true)

pub offset_bounds-work-rows : goal.offset_bounds-work-rows
offset_bounds-work-rows c = omega (arith, corner_at c.requires.run_asks c.loop-q.q c.loop-q-test.true)

pub bounds-work-rows : goal.bounds-work-rows
bounds-work-rows c = omega (arith, corner_at c.requires.run_asks c.loop-q.q c.loop-q-test.true)

pub overflow_cast-i : goal.overflow_cast-i
overflow_cast-i c = omega (arith, corner_at c.requires.run_asks c.loop-q.q c.loop-q-test.true)

pub put_taker-next-requires : goal.put_taker-next-requires
put_taker-next-requires c = record { i_in_bounds = (corner_at c.requires.run_asks c.loop-q.q c.loop-q-test.true).has_origin; last_in_bounds = take_room c.requires.run_asks c.loop-q.invariant c.loop-q-test.true }

pub loop-q-preserved : goal.loop-q-preserved
loop-q-preserved c = take_on c.requires.run_asks c.loop-q.invariant c.loop-q-test.true c.put_taker-next.ensures

pub shape_of-text : goal.shape_of-text
shape_of-text c = c.loop-q.invariant.sofar.puts.only.long

pub returns : goal.returns
returns c = take_done c.requires.run_asks c.loop-q.invariant c.loop-q-test.false
