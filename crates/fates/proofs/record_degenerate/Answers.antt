-- `fates::record_degenerate` meets its contract: the amounts of the places passed are added. Assumes nothing.
use Prim.Native.Nat.{◌-◌}
use native.Mathlib.Omega.{arith}
use Rattle.fates.proofs.Sums.{begin, turn, again, done, shape_small, why_read}
use Rattle.fates.proofs.record_degenerate.Goals as goal

pub loop-i-init : goal.loop-i-init
loop-i-init c = begin _ (shape_small c.args.faces.now c.args.work.now c.args.marks) c.requires.flag_asks.add

pub overflow_mul-i : goal.overflow_mul-i
overflow_mul-i c = omega (arith, turn c.requires.flag_asks.add c.loop-i.invariant c.loop-i-test.true, c.requires.flag_asks.flags, c.requires.n_in_bounds)

pub offset_bounds-faces-i : goal.offset_bounds-faces-i
offset_bounds-faces-i c = omega (arith, turn c.requires.flag_asks.add c.loop-i.invariant c.loop-i-test.true, c.requires.flag_asks.flags, c.requires.n_in_bounds)

pub bounds-faces-i : goal.bounds-faces-i
bounds-faces-i c = omega (arith, turn c.requires.flag_asks.add c.loop-i.invariant c.loop-i-test.true, c.requires.flag_asks.flags, c.requires.n_in_bounds)

pub overflow_mul-i-in-loop-i : goal.overflow_mul-i-in-loop-i
overflow_mul-i-in-loop-i c = omega (arith, turn c.requires.flag_asks.add c.loop-i.invariant c.loop-i-test.true, c.requires.flag_asks.flags, c.requires.n_in_bounds)

pub overflow_add-i : goal.overflow_add-i
overflow_add-i c = omega (arith, turn c.requires.flag_asks.add c.loop-i.invariant c.loop-i-test.true, c.requires.flag_asks.flags, c.requires.n_in_bounds)

pub offset_bounds-faces-i-in-loop-i : goal.offset_bounds-faces-i-in-loop-i
offset_bounds-faces-i-in-loop-i c = omega (arith, turn c.requires.flag_asks.add c.loop-i.invariant c.loop-i-test.true, c.requires.flag_asks.flags, c.requires.n_in_bounds)

pub bounds-faces-i-in-loop-i : goal.bounds-faces-i-in-loop-i
bounds-faces-i-in-loop-i c = omega (arith, turn c.requires.flag_asks.add c.loop-i.invariant c.loop-i-test.true, c.requires.flag_asks.flags, c.requires.n_in_bounds)

pub overflow_mul-i-in-loop-i-2 : goal.overflow_mul-i-in-loop-i-2
overflow_mul-i-in-loop-i-2 c = omega (arith, turn c.requires.flag_asks.add c.loop-i.invariant c.loop-i-test.true, c.requires.flag_asks.flags, c.requires.n_in_bounds)

pub overflow_add-i-in-loop-i : goal.overflow_add-i-in-loop-i
overflow_add-i-in-loop-i c = omega (arith, turn c.requires.flag_asks.add c.loop-i.invariant c.loop-i-test.true, c.requires.flag_asks.flags, c.requires.n_in_bounds)

pub offset_bounds-faces-i-in-loop-i-2 : goal.offset_bounds-faces-i-in-loop-i-2
offset_bounds-faces-i-in-loop-i-2 c = omega (arith, turn c.requires.flag_asks.add c.loop-i.invariant c.loop-i-test.true, c.requires.flag_asks.flags, c.requires.n_in_bounds)

pub bounds-faces-i-in-loop-i-2 : goal.bounds-faces-i-in-loop-i-2
bounds-faces-i-in-loop-i-2 c = omega (arith, turn c.requires.flag_asks.add c.loop-i.invariant c.loop-i-test.true, c.requires.flag_asks.flags, c.requires.n_in_bounds)

pub overflow_add-marks : goal.overflow_add-marks
overflow_add-marks c = omega (arith, turn c.requires.flag_asks.add c.loop-i.invariant c.loop-i-test.true, c.requires.flag_asks.flags, c.requires.n_in_bounds)

pub offset_bounds-work-marks : goal.offset_bounds-work-marks
offset_bounds-work-marks c = omega (arith, turn c.requires.flag_asks.add c.loop-i.invariant c.loop-i-test.true, c.requires.flag_asks.flags, c.requires.n_in_bounds)

pub bounds-work-marks : goal.bounds-work-marks
bounds-work-marks c = omega (arith, turn c.requires.flag_asks.add c.loop-i.invariant c.loop-i-test.true, c.requires.flag_asks.flags, c.requires.n_in_bounds)

pub offset_bounds-origins-i : goal.offset_bounds-origins-i
offset_bounds-origins-i c = omega (arith, turn c.requires.flag_asks.add c.loop-i.invariant c.loop-i-test.true, c.requires.flag_asks.flags, c.requires.n_in_bounds)

pub bounds-origins-i : goal.bounds-origins-i
bounds-origins-i c = omega (arith, turn c.requires.flag_asks.add c.loop-i.invariant c.loop-i-test.true, c.requires.flag_asks.flags, c.requires.n_in_bounds)

pub overflow_cast-at : goal.overflow_cast-at
overflow_cast-at c = omega (arith, turn c.requires.flag_asks.add c.loop-i.invariant c.loop-i-test.true, c.requires.flag_asks.flags, c.requires.n_in_bounds)

pub overflow_add-at : goal.overflow_add-at
overflow_add-at c = omega (arith, turn c.requires.flag_asks.add c.loop-i.invariant c.loop-i-test.true, c.requires.flag_asks.flags, c.requires.n_in_bounds)

pub offset_bounds-work-at : goal.offset_bounds-work-at
offset_bounds-work-at c = omega (arith, turn c.requires.flag_asks.add c.loop-i.invariant c.loop-i-test.true, c.requires.flag_asks.flags, c.requires.n_in_bounds)

pub bounds-work-at : goal.bounds-work-at
bounds-work-at c = omega (arith, turn c.requires.flag_asks.add c.loop-i.invariant c.loop-i-test.true, c.requires.flag_asks.flags, c.requires.n_in_bounds)

pub overflow_add-work : goal.overflow_add-work
overflow_add-work c = omega (arith, turn c.requires.flag_asks.add c.loop-i.invariant c.loop-i-test.true, why_read c.requires.flag_asks c.loop-i.invariant c.loop-i-test.true c.args.faces.now _ _ c.flagged-told.ensures c.why-reason.ensures)

pub offset_bounds-work-at-in-loop-i : goal.offset_bounds-work-at-in-loop-i
offset_bounds-work-at-in-loop-i c = omega (arith, turn c.requires.flag_asks.add c.loop-i.invariant c.loop-i-test.true, c.requires.flag_asks.flags, c.requires.n_in_bounds)

pub bounds-work-at-in-loop-i : goal.bounds-work-at-in-loop-i
bounds-work-at-in-loop-i c = omega (arith, turn c.requires.flag_asks.add c.loop-i.invariant c.loop-i-test.true, c.requires.flag_asks.flags, c.requires.n_in_bounds)

pub loop-i-preserved : goal.loop-i-preserved
loop-i-preserved c = again c.requires.flag_asks.add c.loop-i.invariant c.loop-i-test.true _ (why_read c.requires.flag_asks c.loop-i.invariant c.loop-i-test.true c.args.faces.now _ _ c.flagged-told.ensures c.why-reason.ensures)

pub shape_of-work : goal.shape_of-work
shape_of-work c = c.loop-i.invariant.only.long

pub returns : goal.returns
returns c = done c.requires.flag_asks.add c.loop-i.invariant c.loop-i-test.false
