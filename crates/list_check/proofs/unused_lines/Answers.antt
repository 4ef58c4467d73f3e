-- `list_check::unused_lines` meets its contract: the `u` lines before `at` apply. Assumes nothing.
use mathlib.Core.Path.{sym, ◌∙◌}
use native.Mathlib.Omega.{arith}
use Rattle.list_check.proofs.Unused.{unusing_begin, unusing_other, unusing_low, unusing_absent, unusing_used, unusing_room, unusing_again, unusing_turn, few_lines, unusing_done}
use Rattle.list_check.proofs.unused_lines.Goals as goal

pub loop-at-init : goal.loop-at-init
loop-at-init c = unusing_begin c.requires

pub read_unused-requires : goal.read_unused-requires
read_unused-requires c = c.loop-at-test.true

pub returns-in_default : goal.returns-in_default
returns-in_default c = unusing_other c.requires c.loop-at.invariant c.in_default.ensures

pub returns-then-point-least : goal.returns-then-point-least
returns-then-point-least c = unusing_low c.requires c.loop-at.invariant c.in-Some.ensures c.if-point-least.true

pub returns-then-point-bound : goal.returns-then-point-bound
returns-then-point-bound c = unusing_absent c.requires c.loop-at.invariant c.in-Some.ensures c.if-point-bound.true

pub is_set-requires : goal.is_set-requires
is_set-requires c = unusing_room c.requires c.loop-at.invariant c.in-Some.ensures (omega arith)

pub returns-then-is_set : goal.returns-then-is_set
returns-then-is_set c = unusing_used c.requires c.loop-at.invariant c.in-Some.ensures (omega arith) (sym c.if-is_set.true ∙ c.is_set.ensures)

pub overflow_add-line : goal.overflow_add-line
overflow_add-line c = omega (arith, few_lines c.requires c.loop-at.invariant, c.requires)

pub overflow_add-at : goal.overflow_add-at
overflow_add-at c = omega (arith, unusing_turn c.requires c.loop-at.invariant c.in-Some.ensures)

pub loop-at-smaller : goal.loop-at-smaller
loop-at-smaller c = omega (arith, unusing_turn c.requires c.loop-at.invariant c.in-Some.ensures, c.loop-at-test.true)

pub loop-at-preserved : goal.loop-at-preserved
loop-at-preserved c = unusing_again c.requires c.loop-at.invariant c.in-Some.ensures (omega arith) (omega arith) (sym c.if-is_set.false ∙ c.is_set.ensures)

pub returns : goal.returns
returns c = unusing_done c.requires c.loop-at.invariant c.loop-at-test.false
