-- `boundary::trace` meets its contract: the rows say what is so of the boundary edges along the edges before r. Assumes nothing.
use native.Mathlib.Omega.{arith}
use Rattle.boundary.proofs.Tracing.{begin, bounds, turn, add_asks, counts, skips, done}
use Rattle.boundary.proofs.trace.Goals as goal
use Rattle.boundary.proofs.trace.Goals.{else-to-from-eq1, then-to-from-eq1}

pub loop-r-init : goal.loop-r-init
loop-r-init c = begin c.requires

pub overflow_add-from : goal.overflow_add-from
overflow_add-from c = omega (arith, bounds c.requires c.loop-r.invariant c.loop-r-test.true)

pub offset_bounds-work-starts : goal.offset_bounds-work-starts
offset_bounds-work-starts c = omega (arith, bounds c.requires c.loop-r.invariant c.loop-r-test.true)

pub bounds-work-starts : goal.bounds-work-starts
bounds-work-starts c = omega (arith, bounds c.requires c.loop-r.invariant c.loop-r-test.true)

pub overflow_add-to : goal.overflow_add-to
overflow_add-to c = omega (arith, bounds c.requires c.loop-r.invariant c.loop-r-test.true)

pub overflow_add-to-in-loop-r : goal.overflow_add-to-in-loop-r
overflow_add-to-in-loop-r c = omega (arith, bounds c.requires c.loop-r.invariant c.loop-r-test.true)

pub offset_bounds-work-starts-in-loop-r : goal.offset_bounds-work-starts-in-loop-r
offset_bounds-work-starts-in-loop-r c = omega (arith, bounds c.requires c.loop-r.invariant c.loop-r-test.true)

pub bounds-work-starts-in-loop-r : goal.bounds-work-starts-in-loop-r
bounds-work-starts-in-loop-r c = omega (arith, bounds c.requires c.loop-r.invariant c.loop-r-test.true)

pub overflow_sub-to : goal.overflow_sub-to
overflow_sub-to c = omega (arith, bounds c.requires c.loop-r.invariant c.loop-r-test.true)

pub bounds-work-order : goal.bounds-work-order
bounds-work-order c = omega (arith, bounds c.requires c.loop-r.invariant c.loop-r-test.true)

pub after-j-requires : goal.after-j-requires
after-j-requires c = omega (arith, bounds c.requires c.loop-r.invariant c.loop-r-test.true)

pub bounds-faces-id : goal.bounds-faces-id
bounds-faces-id c = omega (arith, turn c.requires c.loop-r.invariant c.loop-r-test.true c.after-j.ensures)

pub bounds-faces-j : goal.bounds-faces-j
bounds-faces-j c = omega (arith, turn c.requires c.loop-r.invariant c.loop-r-test.true c.after-j.ensures)

pub add-requires : goal.add-requires
add-requires c = add_asks c.requires c.loop-r.invariant c.loop-r-test.true c.after-j.ensures

pub loop-r-preserved : goal.loop-r-preserved
loop-r-preserved c = let p = c.requires in
    elim c.if-to-from-eq1.branch [ then-to-from-eq1 w ↦ rw w.work-is (counts p c.loop-r.invariant c.loop-r-test.true w.after-j.ensures w.if-to-from-eq1.true w.add.ensures) | else-to-from-eq1 w ↦ rw w.work-is (skips p c.loop-r.invariant c.loop-r-test.true w.if-to-from-eq1.false) ]

pub shape_of-work : goal.shape_of-work
shape_of-work c = c.loop-r.invariant.only.long

pub returns : goal.returns
returns c = done c.requires c.loop-r.invariant c.loop-r-test.false
