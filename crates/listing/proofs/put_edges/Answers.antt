-- `listing::put_edges` meets its contract: the ends of the first r edges stand at the front. Assumes nothing.
use native.Mathlib.Omega.{arith}
use lib.ListN.{length-set}
use Rattle.listing.proofs.Ends.{begin, turn, again, done}
use Rattle.listing.proofs.put_edges.Goals as goal

pub loop-r-init : goal.loop-r-init
loop-r-init c = begin c.requires

pub overflow_add-id-in-loop-r-2 : goal.overflow_add-id-in-loop-r-2
overflow_add-id-in-loop-r-2 c = omega (arith, turn c.requires c.loop-r.invariant c.loop-r-test.true)

pub offset_bounds-work-at : goal.offset_bounds-work-at
offset_bounds-work-at c = omega (arith, turn c.requires c.loop-r.invariant c.loop-r-test.true)

pub bounds-work-at : goal.bounds-work-at
bounds-work-at c = omega (arith, turn c.requires c.loop-r.invariant c.loop-r-test.true)

pub bounds-work-at-in-loop-r : goal.bounds-work-at-in-loop-r
bounds-work-at-in-loop-r c = omega (arith, turn c.requires c.loop-r.invariant c.loop-r-test.true)

pub bounds-work-at-in-loop-r-2 : goal.bounds-work-at-in-loop-r-2
bounds-work-at-in-loop-r-2 c = omega (arith, turn c.requires c.loop-r.invariant c.loop-r-test.true)

pub overflow_mul-edges : goal.overflow_mul-edges
overflow_mul-edges c = omega (arith, turn c.requires c.loop-r.invariant c.loop-r-test.true)

pub offset_bounds-edges-r : goal.offset_bounds-edges-r
offset_bounds-edges-r c = omega (arith, turn c.requires c.loop-r.invariant c.loop-r-test.true)

pub bounds-edges-r : goal.bounds-edges-r
bounds-edges-r c = omega (arith, turn c.requires c.loop-r.invariant c.loop-r-test.true)

pub bounds-work-at-in-loop-r-3 : goal.bounds-work-at-in-loop-r-3
bounds-work-at-in-loop-r-3 c = omega (arith, turn c.requires c.loop-r.invariant c.loop-r-test.true)

pub overflow_mul-edges-in-loop-r : goal.overflow_mul-edges-in-loop-r
overflow_mul-edges-in-loop-r c = omega (arith, turn c.requires c.loop-r.invariant c.loop-r-test.true)

pub overflow_add-edges-in-loop-r-3 : goal.overflow_add-edges-in-loop-r-3
overflow_add-edges-in-loop-r-3 c = omega (arith, turn c.requires c.loop-r.invariant c.loop-r-test.true)

pub offset_bounds-edges-r-in-loop-r : goal.offset_bounds-edges-r-in-loop-r
offset_bounds-edges-r-in-loop-r c = omega (arith, turn c.requires c.loop-r.invariant c.loop-r-test.true)

pub bounds-edges-r-in-loop-r : goal.bounds-edges-r-in-loop-r
bounds-edges-r-in-loop-r c = simp length-set (omega (arith, turn c.requires c.loop-r.invariant c.loop-r-test.true))

pub loop-r-preserved : goal.loop-r-preserved
loop-r-preserved c = again c.requires c.loop-r.invariant c.loop-r-test.true

pub shape_of-edges : goal.shape_of-edges
shape_of-edges c = c.loop-r.invariant.only.long

pub returns : goal.returns
returns c = done c.requires c.loop-r.invariant c.loop-r-test.false
