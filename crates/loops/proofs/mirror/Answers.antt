-- `loops::mirror` meets its contract: the first i entries are copied, the last first. Assumes nothing.
use native.Mathlib.Omega.{arith}
use Rattle.loops.proofs.Mirrored.{begin, turn, again, done}
use Rattle.loops.proofs.mirror.Goals as goal

pub loop-i-init : goal.loop-i-init
loop-i-init c = begin c.requires

pub overflow_sub-loop_vertices : goal.overflow_sub-loop_vertices
overflow_sub-loop_vertices c = omega (arith, turn c.requires c.loop-i.invariant c.loop-i-test.true)

pub overflow_sub-loop_vertices-in-loop-i : goal.overflow_sub-loop_vertices-in-loop-i
overflow_sub-loop_vertices-in-loop-i c = omega (arith, turn c.requires c.loop-i.invariant c.loop-i-test.true)

pub overflow_add-loop_vertices : goal.overflow_add-loop_vertices
overflow_add-loop_vertices c = omega (arith, turn c.requires c.loop-i.invariant c.loop-i-test.true)

pub offset_bounds-work-spare : goal.offset_bounds-work-spare
offset_bounds-work-spare c = omega (arith, turn c.requires c.loop-i.invariant c.loop-i-test.true)

pub bounds-work-spare : goal.bounds-work-spare
bounds-work-spare c = omega (arith, turn c.requires c.loop-i.invariant c.loop-i-test.true)

pub overflow_add-loop_vertices-in-loop-i : goal.overflow_add-loop_vertices-in-loop-i
overflow_add-loop_vertices-in-loop-i c = omega (arith, turn c.requires c.loop-i.invariant c.loop-i-test.true)

pub offset_bounds-loop_vertices-from : goal.offset_bounds-loop_vertices-from
offset_bounds-loop_vertices-from c = omega (arith, turn c.requires c.loop-i.invariant c.loop-i-test.true)

pub bounds-loop_vertices-from : goal.bounds-loop_vertices-from
bounds-loop_vertices-from c = omega (arith, turn c.requires c.loop-i.invariant c.loop-i-test.true)

pub loop-i-preserved : goal.loop-i-preserved
loop-i-preserved c = again c.requires c.loop-i.invariant c.loop-i-test.true

pub shape_of-loop_vertices : goal.shape_of-loop_vertices
shape_of-loop_vertices c = c.loop-i.invariant.only.long

pub returns : goal.returns
returns c = done c.requires c.loop-i.invariant c.loop-i-test.false
