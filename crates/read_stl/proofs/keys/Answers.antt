-- `read_stl::keys` meets its contract: the bits of the corners before c are written. Assumes nothing.
use native.Mathlib.Omega.{arith}
use lib.ListN.{length-set}
use Rattle.read_stl.proofs.Keying.{begin, turn, read_at, read_first, again, done}
use Rattle.read_stl.proofs.keys.Goals as goal

pub loop-c-init : goal.loop-c-init
loop-c-init c = begin c.requires

pub place_of-i-requires : goal.place_of-i-requires
place_of-i-requires c = omega (arith, turn c.requires c.loop-c.invariant c.loop-c-test.true)

pub u32_at-requires : goal.u32_at-requires
u32_at-requires c = omega (arith, turn c.requires c.loop-c.invariant c.loop-c-test.true, c.place_of-i.ensures)

pub one_zero-x-requires : goal.one_zero-x-requires
one_zero-x-requires c = omega (arith, turn c.requires c.loop-c.invariant c.loop-c-test.true)

pub overflow_add-i : goal.overflow_add-i
overflow_add-i c = omega (arith, turn c.requires c.loop-c.invariant c.loop-c-test.true, c.place_of-i.ensures)

pub u32_at-requires-in-loop-c : goal.u32_at-requires-in-loop-c
u32_at-requires-in-loop-c c = omega (arith, turn c.requires c.loop-c.invariant c.loop-c-test.true, c.place_of-i.ensures)

pub one_zero-y-requires : goal.one_zero-y-requires
one_zero-y-requires c = omega (arith, turn c.requires c.loop-c.invariant c.loop-c-test.true)

pub overflow_add-i-in-loop-c : goal.overflow_add-i-in-loop-c
overflow_add-i-in-loop-c c = omega (arith, turn c.requires c.loop-c.invariant c.loop-c-test.true, c.place_of-i.ensures)

pub u32_at-requires-in-loop-c-2 : goal.u32_at-requires-in-loop-c-2
u32_at-requires-in-loop-c-2 c = omega (arith, turn c.requires c.loop-c.invariant c.loop-c-test.true, c.place_of-i.ensures)

pub one_zero-z-requires : goal.one_zero-z-requires
one_zero-z-requires c = omega (arith, turn c.requires c.loop-c.invariant c.loop-c-test.true)

pub offset_bounds-work-c : goal.offset_bounds-work-c
offset_bounds-work-c c = omega (arith, turn c.requires c.loop-c.invariant c.loop-c-test.true)

pub bounds-work-c : goal.bounds-work-c
bounds-work-c c = omega (arith, turn c.requires c.loop-c.invariant c.loop-c-test.true)

pub overflow_add-work : goal.overflow_add-work
overflow_add-work c = omega (arith, turn c.requires c.loop-c.invariant c.loop-c-test.true)

pub offset_bounds-work-n : goal.offset_bounds-work-n
offset_bounds-work-n c = omega (arith, turn c.requires c.loop-c.invariant c.loop-c-test.true)

pub bounds-work-n : goal.bounds-work-n
bounds-work-n c = simp length-set (omega (arith, turn c.requires c.loop-c.invariant c.loop-c-test.true))

pub overflow_mul-work : goal.overflow_mul-work
overflow_mul-work c = omega (arith, turn c.requires c.loop-c.invariant c.loop-c-test.true)

pub overflow_add-work-in-loop-c : goal.overflow_add-work-in-loop-c
overflow_add-work-in-loop-c c = omega (arith, turn c.requires c.loop-c.invariant c.loop-c-test.true)

pub offset_bounds-work-n-in-loop-c : goal.offset_bounds-work-n-in-loop-c
offset_bounds-work-n-in-loop-c c = omega (arith, turn c.requires c.loop-c.invariant c.loop-c-test.true)

pub bounds-work-n-in-loop-c : goal.bounds-work-n-in-loop-c
bounds-work-n-in-loop-c c = simp length-set (omega (arith, turn c.requires c.loop-c.invariant c.loop-c-test.true))

pub loop-c-preserved : goal.loop-c-preserved
loop-c-preserved c = again c.requires c.loop-c.invariant c.loop-c-test.true
    (read_first c.args.file.now c.place_of-i.ensures c.u32_at.ensures c.one_zero-x.ensures.value)
    (read_at c.args.file.now 4 c.place_of-i.ensures c.u32_at-in-loop-c.ensures c.one_zero-y.ensures.value)
    (read_at c.args.file.now 8 c.place_of-i.ensures c.u32_at-in-loop-c-2.ensures c.one_zero-z.ensures.value)
    c.one_zero-x.ensures.upper_bound c.one_zero-y.ensures.upper_bound c.one_zero-z.ensures.upper_bound

pub shape_of-work : goal.shape_of-work
shape_of-work c = c.loop-c.invariant.only.long

pub returns : goal.returns
returns c = done c.requires c.loop-c.invariant c.loop-c-test.false
