-- `list_check::change_lines` meets its contract: the lines before `at` apply. Assumes nothing.
use mathlib.Core.Path.{◌∙◌}
use native.Mathlib.Omega.{arith}
use Rattle.list_check.proofs.Looping.{going_begin, going_asks, going_bad, going_unused, going_again, going_turn, few_lines, going_done}
use Rattle.list_check.proofs.change_lines.Goals as goal

pub loop-at-init : goal.loop-at-init
loop-at-init c = going_begin _ c.requires

pub change_line-requires : goal.change_line-requires
change_line-requires c = going_asks c.loop-at.invariant c.loop-at-test.true

pub shape_of-marks-in-None : goal.shape_of-marks-in-None
shape_of-marks-in-None c = c.change_line.auto.marks ∙ c.loop-at.invariant.long_bytes

pub shape_of-bits-in-None : goal.shape_of-bits-in-None
shape_of-bits-in-None c = c.change_line.auto.bits ∙ c.loop-at.invariant.long_bits

pub returns-in-None : goal.returns-in-None
returns-in-None c = going_bad c.loop-at.invariant c.in-None.ensures

pub shape_of-marks-in-Some-Unused : goal.shape_of-marks-in-Some-Unused
shape_of-marks-in-Some-Unused c = c.change_line.auto.marks ∙ c.loop-at.invariant.long_bytes

pub shape_of-bits-in-Some-Unused : goal.shape_of-bits-in-Some-Unused
shape_of-bits-in-Some-Unused c = c.change_line.auto.bits ∙ c.loop-at.invariant.long_bits

pub returns-in-Some-Unused : goal.returns-in-Some-Unused
returns-in-Some-Unused c = going_unused c.loop-at.invariant c.loop-at-test.true (rw c.in-Some-Unused.field-0-is at c.in-Some-Unused.ensures)

pub overflow_add-line : goal.overflow_add-line
overflow_add-line c = omega (arith, few_lines c.loop-at.invariant)

pub overflow_add-at : goal.overflow_add-at
overflow_add-at c = omega (arith, going_turn c.loop-at.invariant (rw c.in-Some-On.field-0-is at c.in-Some-On.ensures))

pub loop-at-smaller : goal.loop-at-smaller
loop-at-smaller c = omega (arith, going_turn c.loop-at.invariant (rw c.in-Some-On.field-0-is at c.in-Some-On.ensures), c.loop-at-test.true)

pub loop-at-preserved : goal.loop-at-preserved
loop-at-preserved c = going_again c.loop-at.invariant (rw c.in-Some-On.field-0-is at c.in-Some-On.ensures)

pub shape_of-marks : goal.shape_of-marks
shape_of-marks c = c.loop-at.invariant.long_bytes

pub shape_of-bits : goal.shape_of-bits
shape_of-bits c = c.loop-at.invariant.long_bits

pub returns : goal.returns
returns c = going_done c.loop-at.invariant c.loop-at-test.false
