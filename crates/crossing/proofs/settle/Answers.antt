-- `crossing::settle` meets its contract. Assumes nothing.
use native.Mathlib.Omega.{arith}
use Rattle.crossing.proofs.Settling.{settle_bounds, run_asks, note_asks, settle_gives}
use Rattle.crossing.proofs.settle.Goals as goal

pub overflow_add-from : goal.overflow_add-from
overflow_add-from c = omega (arith, settle_bounds c.requires)

pub offset_bounds-work-starts : goal.offset_bounds-work-starts
offset_bounds-work-starts c = omega (arith, settle_bounds c.requires)

pub bounds-work-starts : goal.bounds-work-starts
bounds-work-starts c = omega (arith, settle_bounds c.requires)

pub overflow_add-to : goal.overflow_add-to
overflow_add-to c = omega (arith, settle_bounds c.requires)

pub overflow_add-to-2 : goal.overflow_add-to-2
overflow_add-to-2 c = omega (arith, settle_bounds c.requires)

pub offset_bounds-work-starts-2 : goal.offset_bounds-work-starts-2
offset_bounds-work-starts-2 c = omega (arith, settle_bounds c.requires)

pub bounds-work-starts-2 : goal.bounds-work-starts-2
bounds-work-starts-2 c = omega (arith, settle_bounds c.requires)

pub reach_run-requires : goal.reach_run-requires
reach_run-requires c = run_asks c.requires

pub note-requires : goal.note-requires
note-requires c = note_asks c.requires c.reach_run.ensures

pub returns : goal.returns
returns c = settle_gives c.requires c.reach_run.ensures c.min-low.ensures c.max-high.ensures c.note.ensures
