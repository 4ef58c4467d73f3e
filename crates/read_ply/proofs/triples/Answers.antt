-- `read_ply::triples` meets its contract: the faces before i are written. Assumes nothing.
use native.Mathlib.Omega.{arith}
use lib.ListN.{length-set}
use Rattle.read_ply.proofs.Facing.{begin, turn, again, done}
use Rattle.read_ply.proofs.triples.Goals as goal

pub loop-i-init : goal.loop-i-init
loop-i-init c = begin c.requires

pub overflow_mul-i : goal.overflow_mul-i
overflow_mul-i c = omega (arith, turn c.requires c.loop-i.invariant c.loop-i-test.true)

pub overflow_add-at : goal.overflow_add-at
overflow_add-at c = omega (arith, turn c.requires c.loop-i.invariant c.loop-i-test.true)

pub overflow_add-at-in-loop-i : goal.overflow_add-at-in-loop-i
overflow_add-at-in-loop-i c = omega (arith, turn c.requires c.loop-i.invariant c.loop-i-test.true)

pub u32_at-a-requires : goal.u32_at-a-requires
u32_at-a-requires c = omega (arith, turn c.requires c.loop-i.invariant c.loop-i-test.true)

pub overflow_mul-i-in-loop-i : goal.overflow_mul-i-in-loop-i
overflow_mul-i-in-loop-i c = omega (arith, turn c.requires c.loop-i.invariant c.loop-i-test.true)

pub overflow_add-at-in-loop-i-2 : goal.overflow_add-at-in-loop-i-2
overflow_add-at-in-loop-i-2 c = omega (arith, turn c.requires c.loop-i.invariant c.loop-i-test.true)

pub overflow_add-at-in-loop-i-3 : goal.overflow_add-at-in-loop-i-3
overflow_add-at-in-loop-i-3 c = omega (arith, turn c.requires c.loop-i.invariant c.loop-i-test.true)

pub u32_at-b-requires : goal.u32_at-b-requires
u32_at-b-requires c = omega (arith, turn c.requires c.loop-i.invariant c.loop-i-test.true)

pub overflow_mul-i-in-loop-i-2 : goal.overflow_mul-i-in-loop-i-2
overflow_mul-i-in-loop-i-2 c = omega (arith, turn c.requires c.loop-i.invariant c.loop-i-test.true)

pub overflow_add-at-in-loop-i-4 : goal.overflow_add-at-in-loop-i-4
overflow_add-at-in-loop-i-4 c = omega (arith, turn c.requires c.loop-i.invariant c.loop-i-test.true)

pub overflow_add-at-in-loop-i-5 : goal.overflow_add-at-in-loop-i-5
overflow_add-at-in-loop-i-5 c = omega (arith, turn c.requires c.loop-i.invariant c.loop-i-test.true)

pub u32_at-c-requires : goal.u32_at-c-requires
u32_at-c-requires c = omega (arith, turn c.requires c.loop-i.invariant c.loop-i-test.true)

pub overflow_mul-faces : goal.overflow_mul-faces
overflow_mul-faces c = omega (arith, turn c.requires c.loop-i.invariant c.loop-i-test.true)

pub offset_bounds-faces-i : goal.offset_bounds-faces-i
offset_bounds-faces-i c = omega (arith, turn c.requires c.loop-i.invariant c.loop-i-test.true)

pub bounds-faces-i : goal.bounds-faces-i
bounds-faces-i c = omega (arith, turn c.requires c.loop-i.invariant c.loop-i-test.true)

pub overflow_mul-faces-in-loop-i : goal.overflow_mul-faces-in-loop-i
overflow_mul-faces-in-loop-i c = omega (arith, turn c.requires c.loop-i.invariant c.loop-i-test.true)

pub overflow_add-faces : goal.overflow_add-faces
overflow_add-faces c = omega (arith, turn c.requires c.loop-i.invariant c.loop-i-test.true)

pub offset_bounds-faces-i-in-loop-i : goal.offset_bounds-faces-i-in-loop-i
offset_bounds-faces-i-in-loop-i c = omega (arith, turn c.requires c.loop-i.invariant c.loop-i-test.true)

pub bounds-faces-i-in-loop-i : goal.bounds-faces-i-in-loop-i
bounds-faces-i-in-loop-i c = simp length-set (omega (arith, turn c.requires c.loop-i.invariant c.loop-i-test.true))

pub overflow_mul-faces-in-loop-i-2 : goal.overflow_mul-faces-in-loop-i-2
overflow_mul-faces-in-loop-i-2 c = omega (arith, turn c.requires c.loop-i.invariant c.loop-i-test.true)

pub overflow_add-faces-in-loop-i : goal.overflow_add-faces-in-loop-i
overflow_add-faces-in-loop-i c = omega (arith, turn c.requires c.loop-i.invariant c.loop-i-test.true)

pub offset_bounds-faces-i-in-loop-i-2 : goal.offset_bounds-faces-i-in-loop-i-2
offset_bounds-faces-i-in-loop-i-2 c = omega (arith, turn c.requires c.loop-i.invariant c.loop-i-test.true)

pub bounds-faces-i-in-loop-i-2 : goal.bounds-faces-i-in-loop-i-2
bounds-faces-i-in-loop-i-2 c = simp length-set (omega (arith, turn c.requires c.loop-i.invariant c.loop-i-test.true))

pub loop-i-preserved : goal.loop-i-preserved
loop-i-preserved c = again c.requires c.loop-i.invariant c.loop-i-test.true c.u32_at-a.ensures c.u32_at-b.ensures c.u32_at-c.ensures

pub shape_of-faces : goal.shape_of-faces
shape_of-faces c = c.loop-i.invariant.only.long

pub returns : goal.returns
returns c = done c.requires c.loop-i.invariant c.loop-i-test.false
