-- `loops::add_loop` meets its contract: nothing was passed, or the loop is listed. Assumes nothing.
use native.Mathlib.Omega.{arith}
use Rattle.loops.proofs.Adding.{walk_asks, nothing, fits, mirror_asks, something}
use Rattle.loops.proofs.add_loop.Goals as goal

pub walk-n-requires : goal.walk-n-requires
walk-n-requires c = walk_asks c.requires

pub returns-then-n-eq0 : goal.returns-then-n-eq0
returns-then-n-eq0 c = λ q. nothing q c.walk-n.ensures c.if-n-eq0.true

pub mirror-requires : goal.mirror-requires
mirror-requires c = mirror_asks c.requires c.walk-n.ensures c.if-n-eq0.false

pub overflow_add-total : goal.overflow_add-total
overflow_add-total c = omega (arith, fits c.requires c.walk-n.ensures c.if-n-eq0.false)

pub overflow_cast-loop_ends : goal.overflow_cast-loop_ends
overflow_cast-loop_ends c = omega (arith, fits c.requires c.walk-n.ensures c.if-n-eq0.false)

pub offset_bounds-loop_ends-count : goal.offset_bounds-loop_ends-count
offset_bounds-loop_ends-count c = omega (arith, fits c.requires c.walk-n.ensures c.if-n-eq0.false)

pub bounds-loop_ends-count : goal.bounds-loop_ends-count
bounds-loop_ends-count c = omega (arith, fits c.requires c.walk-n.ensures c.if-n-eq0.false)

pub overflow_add-result : goal.overflow_add-result
overflow_add-result c = omega (arith, fits c.requires c.walk-n.ensures c.if-n-eq0.false)

pub returns : goal.returns
returns c = λ q. something q c.walk-n.ensures c.if-n-eq0.false c.mirror.ensures
