-- `loops::walk` meets its contract: the vertices passed are listed and lead nowhere. Assumes nothing.
use Prim.Native.Nat.{◌+◌}
use native.Mathlib.Omega.{arith}
use lib.ListN.{length-set}
use Rattle.loops.proofs.Walking.{begin, start, turn, again, done}
use Rattle.loops.proofs.walk.Goals as goal

pub overflow_add-to : goal.overflow_add-to
overflow_add-to c = omega (arith, start c.requires)

pub offset_bounds-work-next : goal.offset_bounds-work-next
offset_bounds-work-next c = omega (arith, start c.requires)

pub bounds-work-next : goal.bounds-work-next
bounds-work-next c = omega (arith, start c.requires)

pub overflow_cast-to : goal.overflow_cast-to
overflow_cast-to c = omega (arith, c.slice_known-1.given (c.args.next + c.args.v))

pub loop-to-init : goal.loop-to-init
loop-to-init c = λ q. begin q

pub overflow_cast-work : goal.overflow_cast-work
overflow_cast-work c = omega (arith, turn c.requires c.loop-to.invariant c.loop-to-test.true)

pub overflow_add-work : goal.overflow_add-work
overflow_add-work c = omega (arith, turn c.requires c.loop-to.invariant c.loop-to-test.true)

pub offset_bounds-work-spare : goal.offset_bounds-work-spare
offset_bounds-work-spare c = omega (arith, turn c.requires c.loop-to.invariant c.loop-to-test.true)

pub bounds-work-spare : goal.bounds-work-spare
bounds-work-spare c = omega (arith, turn c.requires c.loop-to.invariant c.loop-to-test.true)

pub overflow_cast-work-in-loop-to : goal.overflow_cast-work-in-loop-to
overflow_cast-work-in-loop-to c = omega (arith, turn c.requires c.loop-to.invariant c.loop-to-test.true)

pub overflow_add-work-in-loop-to : goal.overflow_add-work-in-loop-to
overflow_add-work-in-loop-to c = omega (arith, turn c.requires c.loop-to.invariant c.loop-to-test.true)

pub offset_bounds-work-next-in-loop-to : goal.offset_bounds-work-next-in-loop-to
offset_bounds-work-next-in-loop-to c = omega (arith, turn c.requires c.loop-to.invariant c.loop-to-test.true)

pub bounds-work-next-in-loop-to : goal.bounds-work-next-in-loop-to
bounds-work-next-in-loop-to c = simp length-set (omega (arith, turn c.requires c.loop-to.invariant c.loop-to-test.true))

pub overflow_add-to-in-loop-to : goal.overflow_add-to-in-loop-to
overflow_add-to-in-loop-to c = omega (arith, turn c.requires c.loop-to.invariant c.loop-to-test.true)

pub offset_bounds-work-next-in-loop-to-2 : goal.offset_bounds-work-next-in-loop-to-2
offset_bounds-work-next-in-loop-to-2 c = omega (arith, turn c.requires c.loop-to.invariant c.loop-to-test.true)

pub bounds-work-next-in-loop-to-2 : goal.bounds-work-next-in-loop-to-2
bounds-work-next-in-loop-to-2 c = simp length-set (omega (arith, turn c.requires c.loop-to.invariant c.loop-to-test.true))

pub overflow_cast-to-in-loop-to : goal.overflow_cast-to-in-loop-to
overflow_cast-to-in-loop-to c = omega (arith, c.slice_known-in-loop-to-1.given (c.args.next + c.loop-to.to))

pub overflow_add-k : goal.overflow_add-k
overflow_add-k c = omega (arith, turn c.requires c.loop-to.invariant c.loop-to-test.true)

pub loop-to-smaller : goal.loop-to-smaller
loop-to-smaller c = omega (arith, turn c.requires c.loop-to.invariant c.loop-to-test.true)

pub loop-to-preserved : goal.loop-to-preserved
loop-to-preserved c = λ q. again q c.loop-to.invariant c.loop-to-test.true

pub shape_of-work : goal.shape_of-work
shape_of-work c = (c.loop-to.invariant c.requires).only.long

pub returns : goal.returns
returns c = λ q. done q c.loop-to.invariant c.loop-to-test.false
