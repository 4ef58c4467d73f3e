-- `windows::fit` meets its contract. The invariant: the first k runs fit, and s is where the next begins. Assumes nothing.
use Rattle.std.proofs.Common.{◌≡◌, arith}
use Rattle.windows.proofs.Fitting.{begin, turn, again, done}
use Rattle.windows.proofs.fit.Goals as goal

pub loop-k-init : goal.loop-k-init
loop-k-init c = begin c.requires

pub offset_bounds-counts-k : goal.offset_bounds-counts-k
offset_bounds-counts-k c = omega (arith, turn c.requires c.loop-k.invariant)

pub bounds-counts-k : goal.bounds-counts-k
bounds-counts-k c = omega (arith, turn c.requires c.loop-k.invariant)

pub overflow_cast-n : goal.overflow_cast-n
overflow_cast-n c = omega (arith, c.shared_slice_known-1.given c.loop-k.k)

pub overflow_mul-n : goal.overflow_mul-n
overflow_mul-n c = omega (arith, c.shared_slice_known-1.given c.loop-k.k)

pub shape_of-ends-then-most-n : goal.shape_of-ends-then-most-n
shape_of-ends-then-most-n c = c.loop-k.invariant.long

pub returns-then-most-n : goal.returns-then-most-n
returns-then-most-n c = done c.requires c.loop-k.invariant

pub overflow_sub-room : goal.overflow_sub-room
overflow_sub-room c = omega (arith, turn c.requires c.loop-k.invariant)

pub overflow_cast-ends : goal.overflow_cast-ends
overflow_cast-ends c = omega (arith, turn c.requires c.loop-k.invariant)

pub offset_bounds-ends-k : goal.offset_bounds-ends-k
offset_bounds-ends-k c = omega (arith, turn c.requires c.loop-k.invariant)

pub bounds-ends-k : goal.bounds-ends-k
bounds-ends-k c = omega (arith, turn c.requires c.loop-k.invariant)

pub overflow_add-s : goal.overflow_add-s
overflow_add-s c = omega (arith, turn c.requires c.loop-k.invariant)

pub loop-k-preserved : goal.loop-k-preserved
loop-k-preserved c = again c.requires c.loop-k.invariant c.loop-k-test.true c.if-most-n.false c.if-room-s.false

pub shape_of-ends : goal.shape_of-ends
shape_of-ends c = c.loop-k.invariant.long

pub returns : goal.returns
returns c = let e : c.loop-k.k ≡ c.args.limit = omega (arith, c.loop-k.invariant) in rw e at (done c.requires c.loop-k.invariant)
