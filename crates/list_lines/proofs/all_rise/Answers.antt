-- `list_lines::all_rise` meets its contract: the fields before `at` rise. Assumes nothing.
use native.Mathlib.Omega.{arith}
use Rattle.list_lines.proofs.Rises.{rise_begin, rest_long, rise_none, rise_not, rise_turn, rise_again, rise_done}
use Rattle.list_lines.proofs.all_rise.Goals as goal

pub loop-at-init : goal.loop-at-init
loop-at-init c = rise_begin

pub read_number-requires : goal.read_number-requires
read_number-requires c = rest_long c.args.fields.now c.loop-at.at c.loop-at-test.true

pub returns-in_default : goal.returns-in_default
returns-in_default c = rise_none c.loop-at.invariant (c.in_default.ensures)

pub returns-then-from-least : goal.returns-then-from-least
returns-then-from-least c = rise_not c.loop-at.invariant (c.in-Some.ensures) (rw c.from.ensures at c.if-from-least.true)

pub overflow_add-at : goal.overflow_add-at
overflow_add-at c = omega (arith, rise_turn c.loop-at.invariant (c.in-Some.ensures))

pub loop-at-smaller : goal.loop-at-smaller
loop-at-smaller c = omega (arith, rise_turn c.loop-at.invariant (c.in-Some.ensures))

pub loop-at-preserved : goal.loop-at-preserved
loop-at-preserved c = rw c.from-least.ensures (rise_again c.loop-at.invariant (c.in-Some.ensures) (omega arith) (rw c.from.ensures at c.if-from-least.false))

pub returns : goal.returns
returns c = rise_done c.loop-at.invariant c.loop-at-test.false
