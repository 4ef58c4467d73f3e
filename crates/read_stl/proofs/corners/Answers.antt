-- `read_stl::corners` meets its contract: the corners before c are written. Assumes nothing.
use native.Mathlib.Omega.{arith}
use lib.ListN.{length-set}
use Rattle.read_stl.proofs.Standing.{begin, turn, read_at, read_first, again, done}
use Rattle.read_stl.proofs.corners.Goals as goal

pub loop-c-init : goal.loop-c-init
loop-c-init c = begin c.requires

pub place_of-i-requires : goal.place_of-i-requires
place_of-i-requires c = omega (arith, turn c.requires c.loop-c.invariant c.loop-c-test.true)

pub coordinate-x-requires : goal.coordinate-x-requires
coordinate-x-requires c = omega (arith, turn c.requires c.loop-c.invariant c.loop-c-test.true, c.place_of-i.ensures)

pub overflow_add-i : goal.overflow_add-i
overflow_add-i c = omega (arith, turn c.requires c.loop-c.invariant c.loop-c-test.true, c.place_of-i.ensures)

pub coordinate-y-requires : goal.coordinate-y-requires
coordinate-y-requires c = omega (arith, turn c.requires c.loop-c.invariant c.loop-c-test.true, c.place_of-i.ensures)

pub overflow_add-i-in-loop-c : goal.overflow_add-i-in-loop-c
overflow_add-i-in-loop-c c = omega (arith, turn c.requires c.loop-c.invariant c.loop-c-test.true, c.place_of-i.ensures)

pub coordinate-z-requires : goal.coordinate-z-requires
coordinate-z-requires c = omega (arith, turn c.requires c.loop-c.invariant c.loop-c-test.true, c.place_of-i.ensures)

pub overflow_mul-points : goal.overflow_mul-points
overflow_mul-points c = omega (arith, turn c.requires c.loop-c.invariant c.loop-c-test.true)

pub offset_bounds-points-c : goal.offset_bounds-points-c
offset_bounds-points-c c = omega (arith, turn c.requires c.loop-c.invariant c.loop-c-test.true)

pub bounds-points-c : goal.bounds-points-c
bounds-points-c c = omega (arith, turn c.requires c.loop-c.invariant c.loop-c-test.true)

pub overflow_mul-points-in-loop-c : goal.overflow_mul-points-in-loop-c
overflow_mul-points-in-loop-c c = omega (arith, turn c.requires c.loop-c.invariant c.loop-c-test.true)

pub overflow_add-points : goal.overflow_add-points
overflow_add-points c = omega (arith, turn c.requires c.loop-c.invariant c.loop-c-test.true)

pub offset_bounds-points-c-in-loop-c : goal.offset_bounds-points-c-in-loop-c
offset_bounds-points-c-in-loop-c c = omega (arith, turn c.requires c.loop-c.invariant c.loop-c-test.true)

pub bounds-points-c-in-loop-c : goal.bounds-points-c-in-loop-c
bounds-points-c-in-loop-c c = simp length-set (omega (arith, turn c.requires c.loop-c.invariant c.loop-c-test.true))

pub overflow_mul-points-in-loop-c-2 : goal.overflow_mul-points-in-loop-c-2
overflow_mul-points-in-loop-c-2 c = omega (arith, turn c.requires c.loop-c.invariant c.loop-c-test.true)

pub overflow_add-points-in-loop-c : goal.overflow_add-points-in-loop-c
overflow_add-points-in-loop-c c = omega (arith, turn c.requires c.loop-c.invariant c.loop-c-test.true)

pub offset_bounds-points-c-in-loop-c-2 : goal.offset_bounds-points-c-in-loop-c-2
offset_bounds-points-c-in-loop-c-2 c = omega (arith, turn c.requires c.loop-c.invariant c.loop-c-test.true)

pub bounds-points-c-in-loop-c-2 : goal.bounds-points-c-in-loop-c-2
bounds-points-c-in-loop-c-2 c = simp length-set (omega (arith, turn c.requires c.loop-c.invariant c.loop-c-test.true))

pub loop-c-preserved : goal.loop-c-preserved
loop-c-preserved c = again c.requires c.loop-c.invariant c.loop-c-test.true
    (read_first c.args.file.now c.place_of-i.ensures c.coordinate-x.ensures)
    (read_at c.args.file.now 4 c.place_of-i.ensures c.coordinate-y.ensures)
    (read_at c.args.file.now 8 c.place_of-i.ensures c.coordinate-z.ensures)

pub shape_of-points : goal.shape_of-points
shape_of-points c = c.loop-c.invariant.only.long

pub returns : goal.returns
returns c = done c.requires c.loop-c.invariant c.loop-c-test.false
