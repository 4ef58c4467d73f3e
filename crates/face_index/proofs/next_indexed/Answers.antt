-- `face_index::next_indexed` meets its contract. The invariant: no face that was passed has both corners. Assumes nothing.
use native.Mathlib.Omega.{arith}
use Rattle.face_index.proofs.Finding.{turn, past_ok, again, row_fits, begin}
use Rattle.face_index.proofs.next_indexed.Goals as goal

pub overflow_mul-row : goal.overflow_mul-row
overflow_mul-row c = omega (arith, row_fits c.args.index.now c.args.a c.bucket.ensures)

pub overflow_mul-other : goal.overflow_mul-other
overflow_mul-other c = omega (arith, row_fits c.args.index.now c.args.b c.bucket-2.ensures)

pub loop-f-init : goal.loop-f-init
loop-f-init c = begin c.block_size-size.ensures c.bucket.ensures c.bucket-2.ensures

pub nonzero_div-word : goal.nonzero_div-word
nonzero_div-word c = (turn c.requires.indexed c.loop-f.invariant c.loop-f-test.true).some

pub overflow_add-row : goal.overflow_add-row
overflow_add-row c = omega (arith, turn c.requires.indexed c.loop-f.invariant c.loop-f-test.true)

pub offset_bounds-index-row : goal.offset_bounds-index-row
offset_bounds-index-row c = omega (arith, turn c.requires.indexed c.loop-f.invariant c.loop-f-test.true)

pub bounds-index-row : goal.bounds-index-row
bounds-index-row c = (turn c.requires.indexed c.loop-f.invariant c.loop-f-test.true).row_in

pub overflow_add-other : goal.overflow_add-other
overflow_add-other c = omega (arith, turn c.requires.indexed c.loop-f.invariant c.loop-f-test.true)

pub offset_bounds-index-other : goal.offset_bounds-index-other
offset_bounds-index-other c = omega (arith, turn c.requires.indexed c.loop-f.invariant c.loop-f-test.true)

pub bounds-index-other : goal.bounds-index-other
bounds-index-other c = (turn c.requires.indexed c.loop-f.invariant c.loop-f-test.true).other_in

pub past-f-requires : goal.past-f-requires
past-f-requires c = past_ok c.requires.indexed c.loop-f.invariant c.loop-f-test.true

pub loop-f-preserved : goal.loop-f-preserved
loop-f-preserved c = again c.requires.indexed c.loop-f.invariant c.loop-f-test.true c.joins.ensures c.if-joins.false c.past-f.ensures
