-- `fates::record` meets its contract: the amounts of the places passed are added. Assumes nothing.
use Prim.Native.Nat.{◌-◌}
use native.Mathlib.Omega.{arith}
use Rattle.fates.proofs.Sums.{begin, turn, again, done, flag_small, code_read}
use Rattle.fates.proofs.record.Goals as goal

pub loop-i-init : goal.loop-i-init
loop-i-init c = begin _ (flag_small c.args.work.now c.args.marks c.args.code c.requires.code_bound) c.requires.flag_asks.add

pub overflow_add-marks : goal.overflow_add-marks
overflow_add-marks c = omega (arith, turn c.requires.flag_asks.add c.loop-i.invariant c.loop-i-test.true, c.requires.flag_asks.flags)

pub offset_bounds-work-marks : goal.offset_bounds-work-marks
offset_bounds-work-marks c = omega (arith, turn c.requires.flag_asks.add c.loop-i.invariant c.loop-i-test.true, c.requires.flag_asks.flags)

pub bounds-work-marks : goal.bounds-work-marks
bounds-work-marks c = omega (arith, turn c.requires.flag_asks.add c.loop-i.invariant c.loop-i-test.true, c.requires.flag_asks.flags)

pub offset_bounds-origins-i : goal.offset_bounds-origins-i
offset_bounds-origins-i c = omega (arith, turn c.requires.flag_asks.add c.loop-i.invariant c.loop-i-test.true, c.requires.flag_asks.flags)

pub bounds-origins-i : goal.bounds-origins-i
bounds-origins-i c = omega (arith, turn c.requires.flag_asks.add c.loop-i.invariant c.loop-i-test.true, c.requires.flag_asks.flags)

pub overflow_cast-at : goal.overflow_cast-at
overflow_cast-at c = omega (arith, turn c.requires.flag_asks.add c.loop-i.invariant c.loop-i-test.true, c.requires.flag_asks.flags)

pub overflow_add-at : goal.overflow_add-at
overflow_add-at c = omega (arith, turn c.requires.flag_asks.add c.loop-i.invariant c.loop-i-test.true, c.requires.flag_asks.flags)

pub offset_bounds-work-at : goal.offset_bounds-work-at
offset_bounds-work-at c = omega (arith, turn c.requires.flag_asks.add c.loop-i.invariant c.loop-i-test.true, c.requires.flag_asks.flags)

pub bounds-work-at : goal.bounds-work-at
bounds-work-at c = omega (arith, turn c.requires.flag_asks.add c.loop-i.invariant c.loop-i-test.true, c.requires.flag_asks.flags)

pub overflow_add-work : goal.overflow_add-work
overflow_add-work c = omega (arith, turn c.requires.flag_asks.add c.loop-i.invariant c.loop-i-test.true, code_read c.requires.flag_asks c.loop-i.invariant c.loop-i-test.true _ _ c.flagged-told.ensures)

pub offset_bounds-work-at-in-loop-i : goal.offset_bounds-work-at-in-loop-i
offset_bounds-work-at-in-loop-i c = omega (arith, turn c.requires.flag_asks.add c.loop-i.invariant c.loop-i-test.true, c.requires.flag_asks.flags)

pub bounds-work-at-in-loop-i : goal.bounds-work-at-in-loop-i
bounds-work-at-in-loop-i c = omega (arith, turn c.requires.flag_asks.add c.loop-i.invariant c.loop-i-test.true, c.requires.flag_asks.flags)

pub loop-i-preserved : goal.loop-i-preserved
loop-i-preserved c = again c.requires.flag_asks.add c.loop-i.invariant c.loop-i-test.true _ (code_read c.requires.flag_asks c.loop-i.invariant c.loop-i-test.true _ _ c.flagged-told.ensures)

pub shape_of-work : goal.shape_of-work
shape_of-work c = c.loop-i.invariant.only.long

pub returns : goal.returns
returns c = done c.requires.flag_asks.add c.loop-i.invariant c.loop-i-test.false
