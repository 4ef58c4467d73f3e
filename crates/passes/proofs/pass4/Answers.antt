-- `passes::pass4` meets its contract: the pass is on and both halves follow each other, or it is off. Assumes nothing.
use native.Mathlib.Omega.{arith}
use Rattle.leaving.proofs.ByFlags.{left_fewer}
use Rattle.passes.proofs.Steps.{bit_set, bit_clear, as_long}
use Rattle.passes.proofs.Passes.{reads4, on4, off4, turned_reads}
use Rattle.passes.proofs.pass4.Goals as goal

pub settle-settled-requires : goal.settle-settled-requires
settle-settled-requires c = reads4 c.requires

pub slice_bounds-drop_collisions-end : goal.slice_bounds-drop_collisions-end
slice_bounds-drop_collisions-end c = omega (arith, c.requires.room)

pub slice_bounds-drop_collisions-end-then-options-eq1 : goal.slice_bounds-drop_collisions-end-then-options-eq1
slice_bounds-drop_collisions-end-then-options-eq1 c = omega (arith, as_long c.requires)

pub drop_collisions-left-requires : goal.drop_collisions-left-requires
drop_collisions-left-requires c = record { pass_asks = turned_reads c.requires c.settle-settled.ensures.orient_gives; n_in_bounds = c.requires.own; once = c.settle-settled.ensures.once }

pub overflow_sub-result : goal.overflow_sub-result
overflow_sub-result c = left_fewer c.drop_collisions-left.ensures.leave_gives

pub returns-then-options-eq1 : goal.returns-then-options-eq1
returns-then-options-eq1 c = rw (bit_set 4 c.args.options c.if-options-eq1.true) (on4 c.requires c.settle-settled.ensures.orient_gives c.drop_collisions-left.ensures.only c.drop_collisions-left.ensures.leave_gives)

pub returns : goal.returns
returns c = rw (c.all_kept.ensures, bit_clear 4 c.args.options c.if-options-eq1.false) (off4 c.requires)
