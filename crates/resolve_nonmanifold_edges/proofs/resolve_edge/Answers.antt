-- `resolve_nonmanifold_edges::resolve_edge` meets its contract: an edge with few entries loses nothing, and of a crowded one two faces are kept.
-- Assumes nothing.
use native.Mathlib.Omega.{arith}
use Rattle.marking.proofs.Reading.{bounds, best_ok, entries_ok, edge_read}
use Rattle.resolve_nonmanifold_edges.proofs.Crowding.{few, second_ok, many}
use Rattle.resolve_nonmanifold_edges.proofs.resolve_edge.Goals as goal

pub overflow_add-a : goal.overflow_add-a
overflow_add-a c = omega (arith, bounds c.requires)

pub offset_bounds-work-n : goal.offset_bounds-work-n
offset_bounds-work-n c = omega (arith, bounds c.requires)

pub bounds-work-n : goal.bounds-work-n
bounds-work-n c = omega (arith, bounds c.requires)

pub overflow_add-b : goal.overflow_add-b
overflow_add-b c = omega (arith, bounds c.requires)

pub overflow_add-b-2 : goal.overflow_add-b-2
overflow_add-b-2 c = omega (arith, bounds c.requires)

pub offset_bounds-work-n-2 : goal.offset_bounds-work-n-2
offset_bounds-work-n-2 c = omega (arith, bounds c.requires)

pub bounds-work-n-2 : goal.bounds-work-n-2
bounds-work-n-2 c = omega (arith, bounds c.requires)

pub overflow_sub-b : goal.overflow_sub-b
overflow_sub-b c = omega (arith, bounds c.requires)

pub returns-then-b-a-le2 : goal.returns-then-b-a-le2
returns-then-b-a-le2 c = let start = c.before.before.before.before.before.before in
    few start.requires (omega (arith, c.if-b-a-le2.true))

pub best-one-requires : goal.best-one-requires
best-one-requires c = let start = c.before.before.before.before.before.before.before.before in
    best_ok start.requires

pub bounds-work-id : goal.bounds-work-id
bounds-work-id c = omega (arith, bounds c.requires)

pub bounds-work-n-3 : goal.bounds-work-n-3
bounds-work-n-3 c = omega (arith, bounds c.requires)

pub second-two-requires : goal.second-two-requires
second-two-requires c = let at-best = c.before.before.before.before.before in
    let start = at-best.before.before.before.before.before.before.before.before in
    second_ok start.requires at-best.best-one.ensures (omega (arith, at-best.if-b-a-le2.false))

pub mark_others-requires : goal.mark_others-requires
mark_others-requires c = let at_second = c.before in
    let at-best = at_second.before.before.before.before.before.before in
    let start = at-best.before.before.before.before.before.before.before.before in
    entries_ok start.requires

pub returns : goal.returns
returns c = let at-mark-others = c.before.before in
    let at_second = at-mark-others.before.before in
    let at-best = at_second.before.before.before.before.before.before in
    let start = at-best.before.before.before.before.before.before.before.before in
    many start.requires at-best.best-one.ensures (edge_read start.requires) at_second.second-two.ensures (omega (arith, at-best.if-b-a-le2.false)) at-mark-others.mark_others.ensures

-- the run's places end within the work room
pub slice_bounds-best-end : goal.slice_bounds-best-end
slice_bounds-best-end c = omega (arith, bounds c.requires)

-- and so for the second choice
pub slice_bounds-second-end : goal.slice_bounds-second-end
slice_bounds-second-end c = omega (arith, bounds c.requires)
