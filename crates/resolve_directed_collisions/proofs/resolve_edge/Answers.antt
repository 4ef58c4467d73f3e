-- `resolve_directed_collisions::resolve_edge` meets its contract: a directed edge that is used once loses nothing, and of one that is used more often
-- the first in rank stays. Assumes nothing.
use native.Mathlib.Omega.{arith}
use Rattle.marking.proofs.Reading.{bounds, best_ok, entries_ok}
use Rattle.resolve_directed_collisions.proofs.Colliding.{one_use, more_uses}
use Rattle.resolve_directed_collisions.proofs.resolve_edge.Goals as goal

pub overflow_add-a : goal.overflow_add-a
overflow_add-a c = omega (arith, bounds c.requires)

pub offset_bounds-work-n : goal.offset_bounds-work-n
offset_bounds-work-n c = omega (arith, bounds c.requires)

pub bounds-work-n : goal.bounds-work-n
bounds-work-n c = omega (arith, bounds c.requires)

pub overflow_add-b : goal.overflow_add-b
overflow_add-b c = omega (arith, bounds c.requires)

pub overflow_add-b-2 : goal.overflow_add-b-2
overflow_add-b-2 c = omega (arith, bounds c.requires)

pub offset_bounds-work-n-2 : goal.offset_bounds-work-n-2
offset_bounds-work-n-2 c = omega (arith, bounds c.requires)

pub bounds-work-n-2 : goal.bounds-work-n-2
bounds-work-n-2 c = omega (arith, bounds c.requires)

pub overflow_sub-b : goal.overflow_sub-b
overflow_sub-b c = omega (arith, bounds c.requires)

pub best-one-requires : goal.best-one-requires
best-one-requires c = best_ok c.requires

pub mark_rest-requires : goal.mark_rest-requires
mark_rest-requires c = entries_ok c.requires

pub returns-then-b-a-gt1 : goal.returns-then-b-a-gt1
returns-then-b-a-gt1 c = more_uses c.requires c.best-one.ensures c.mark_rest.ensures

pub returns-else-b-a-gt1 : goal.returns-else-b-a-gt1
returns-else-b-a-gt1 c = one_use c.requires c.if-b-a-gt1.false

-- the run's places end within the work room
pub slice_bounds-best-end : goal.slice_bounds-best-end
slice_bounds-best-end c = omega (arith, bounds c.requires)
