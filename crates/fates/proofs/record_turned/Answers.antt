-- `fates::record_turned` meets its contract: the amounts of the places passed are added. Assumes nothing.
use Prim.Native.Nat.{◌-◌}
use native.Mathlib.Omega.{arith}
use Rattle.fates.proofs.Sums.{begin, turn, again, done, turn_small}
use Rattle.fates.proofs.record_turned.Goals as goal

pub loop-i-init : goal.loop-i-init
loop-i-init c = begin _ (turn_small c.args.input.now c.args.faces.now c.args.origins.now) c.requires.add_asks

pub offset_bounds-origins-i : goal.offset_bounds-origins-i
offset_bounds-origins-i c = omega (arith, turn c.requires.add_asks c.loop-i.invariant c.loop-i-test.true, c.requires.n_in_bounds, c.requires.input_len)

pub bounds-origins-i : goal.bounds-origins-i
bounds-origins-i c = omega (arith, turn c.requires.add_asks c.loop-i.invariant c.loop-i-test.true, c.requires.n_in_bounds, c.requires.input_len)

pub overflow_cast-f : goal.overflow_cast-f
overflow_cast-f c = omega (arith, turn c.requires.add_asks c.loop-i.invariant c.loop-i-test.true, c.requires.n_in_bounds, c.requires.input_len)

pub overflow_mul-i : goal.overflow_mul-i
overflow_mul-i c = omega (arith, turn c.requires.add_asks c.loop-i.invariant c.loop-i-test.true, c.requires.n_in_bounds, c.requires.input_len)

pub overflow_add-i : goal.overflow_add-i
overflow_add-i c = omega (arith, turn c.requires.add_asks c.loop-i.invariant c.loop-i-test.true, c.requires.n_in_bounds, c.requires.input_len)

pub offset_bounds-faces-i : goal.offset_bounds-faces-i
offset_bounds-faces-i c = omega (arith, turn c.requires.add_asks c.loop-i.invariant c.loop-i-test.true, c.requires.n_in_bounds, c.requires.input_len)

pub bounds-faces-i : goal.bounds-faces-i
bounds-faces-i c = omega (arith, turn c.requires.add_asks c.loop-i.invariant c.loop-i-test.true, c.requires.n_in_bounds, c.requires.input_len)

pub overflow_mul-f : goal.overflow_mul-f
overflow_mul-f c = omega (arith, turn c.requires.add_asks c.loop-i.invariant c.loop-i-test.true, c.requires.n_in_bounds, c.requires.input_len)

pub overflow_add-f : goal.overflow_add-f
overflow_add-f c = omega (arith, turn c.requires.add_asks c.loop-i.invariant c.loop-i-test.true, c.requires.n_in_bounds, c.requires.input_len)

pub offset_bounds-input-f : goal.offset_bounds-input-f
offset_bounds-input-f c = omega (arith, turn c.requires.add_asks c.loop-i.invariant c.loop-i-test.true, c.requires.n_in_bounds, c.requires.input_len)

pub bounds-input-f : goal.bounds-input-f
bounds-input-f c = omega (arith, turn c.requires.add_asks c.loop-i.invariant c.loop-i-test.true, c.requires.n_in_bounds, c.requires.input_len)

pub overflow_add-at : goal.overflow_add-at
overflow_add-at c = omega (arith, turn c.requires.add_asks c.loop-i.invariant c.loop-i-test.true, c.requires.n_in_bounds, c.requires.input_len)

pub offset_bounds-work-at : goal.offset_bounds-work-at
offset_bounds-work-at c = omega (arith, turn c.requires.add_asks c.loop-i.invariant c.loop-i-test.true, c.requires.n_in_bounds, c.requires.input_len)

pub bounds-work-at : goal.bounds-work-at
bounds-work-at c = omega (arith, turn c.requires.add_asks c.loop-i.invariant c.loop-i-test.true, c.requires.n_in_bounds, c.requires.input_len)

pub overflow_add-work : goal.overflow_add-work
overflow_add-work c = omega (arith, turn c.requires.add_asks c.loop-i.invariant c.loop-i-test.true, c.turned-told.ensures)

pub offset_bounds-work-at-in-loop-i : goal.offset_bounds-work-at-in-loop-i
offset_bounds-work-at-in-loop-i c = omega (arith, turn c.requires.add_asks c.loop-i.invariant c.loop-i-test.true, c.requires.n_in_bounds, c.requires.input_len)

pub bounds-work-at-in-loop-i : goal.bounds-work-at-in-loop-i
bounds-work-at-in-loop-i c = omega (arith, turn c.requires.add_asks c.loop-i.invariant c.loop-i-test.true, c.requires.n_in_bounds, c.requires.input_len)

pub loop-i-preserved : goal.loop-i-preserved
loop-i-preserved c = again c.requires.add_asks c.loop-i.invariant c.loop-i-test.true _ c.turned-told.ensures

pub shape_of-work : goal.shape_of-work
shape_of-work c = c.loop-i.invariant.only.long

pub returns : goal.returns
returns c = done c.requires.add_asks c.loop-i.invariant c.loop-i-test.false
