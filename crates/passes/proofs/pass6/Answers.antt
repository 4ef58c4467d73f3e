-- `passes::pass6` meets its contract: the pass is on and unused points leave, or it is off. Assumes nothing.
use native.Mathlib.Omega.{arith}
use Rattle.passes.proofs.Steps.{bit_set, bit_clear}
use Rattle.passes.proofs.Rooms.{on6, off6}
use Rattle.passes.proofs.pass6.Goals as goal

pub drop_isolated_vertices-left-requires : goal.drop_isolated_vertices-left-requires
drop_isolated_vertices-left-requires c = c.requires.stand

pub overflow_sub-result : goal.overflow_sub-result
overflow_sub-result c = omega (arith, c.drop_isolated_vertices-left.ensures.number)

pub returns-then-options-eq1 : goal.returns-then-options-eq1
returns-then-options-eq1 c = rw (bit_set 5 c.args.options c.if-options-eq1.true) (on6 _ c.requires c.drop_isolated_vertices-left.ensures)

pub returns : goal.returns
returns c = rw (c.all_kept.ensures, bit_clear 5 c.args.options c.if-options-eq1.false) (off6 _ c.requires)
