-- `read_stl::flags` meets its contract: the flags before c are written. Assumes nothing.
use native.Mathlib.Omega.{arith}
use Rattle.read_stl.proofs.Flagging.{begin, turn, again, done}
use Rattle.read_stl.proofs.flags.Goals as goal

pub loop-c-init : goal.loop-c-init
loop-c-init c = begin c.requires

pub overflow_mul-j : goal.overflow_mul-j
overflow_mul-j c = omega (arith, turn c.requires c.loop-c.invariant c.loop-c-test.true)

pub overflow_add-j : goal.overflow_add-j
overflow_add-j c = omega (arith, turn c.requires c.loop-c.invariant c.loop-c-test.true)

pub offset_bounds-work-n : goal.offset_bounds-work-n
offset_bounds-work-n c = omega (arith, turn c.requires c.loop-c.invariant c.loop-c-test.true)

pub bounds-work-n : goal.bounds-work-n
bounds-work-n c = omega (arith, turn c.requires c.loop-c.invariant c.loop-c-test.true)

pub overflow_cast-j : goal.overflow_cast-j
overflow_cast-j c = omega (arith, turn c.requires c.loop-c.invariant c.loop-c-test.true)

pub other-flag-requires : goal.other-flag-requires
other-flag-requires c = omega (arith, turn c.requires c.loop-c.invariant c.loop-c-test.true)

pub overflow_mul-work : goal.overflow_mul-work
overflow_mul-work c = omega (arith, turn c.requires c.loop-c.invariant c.loop-c-test.true)

pub overflow_add-work : goal.overflow_add-work
overflow_add-work c = omega (arith, turn c.requires c.loop-c.invariant c.loop-c-test.true)

pub offset_bounds-work-n-in-loop-c : goal.offset_bounds-work-n-in-loop-c
offset_bounds-work-n-in-loop-c c = omega (arith, turn c.requires c.loop-c.invariant c.loop-c-test.true)

pub bounds-work-n-in-loop-c : goal.bounds-work-n-in-loop-c
bounds-work-n-in-loop-c c = omega (arith, turn c.requires c.loop-c.invariant c.loop-c-test.true)

pub loop-c-preserved : goal.loop-c-preserved
loop-c-preserved c = again c.requires c.loop-c.invariant c.loop-c-test.true c.other-flag.ensures

pub shape_of-work : goal.shape_of-work
shape_of-work c = c.loop-c.invariant.only.long

pub returns : goal.returns
returns c = done c.requires c.loop-c.invariant c.loop-c-test.false
