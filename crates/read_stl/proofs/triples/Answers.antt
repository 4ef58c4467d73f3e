-- `read_stl::triples` meets its contract: the numbers before c are written. Assumes nothing.
use native.Mathlib.Omega.{arith}
use Rattle.read_stl.proofs.Numbering.{begin, turn, again, done}
use Rattle.read_stl.proofs.triples.Goals as goal

pub loop-c-init : goal.loop-c-init
loop-c-init c = begin c.requires

pub overflow_mul-j : goal.overflow_mul-j
overflow_mul-j c = omega (arith, turn c.requires c.loop-c.invariant c.loop-c-test.true)

pub overflow_add-j : goal.overflow_add-j
overflow_add-j c = omega (arith, turn c.requires c.loop-c.invariant c.loop-c-test.true)

pub offset_bounds-work-n : goal.offset_bounds-work-n
offset_bounds-work-n c = omega (arith, turn c.requires c.loop-c.invariant c.loop-c-test.true)

pub bounds-work-n : goal.bounds-work-n
bounds-work-n c = omega (arith, turn c.requires c.loop-c.invariant c.loop-c-test.true)

pub overflow_cast-j : goal.overflow_cast-j
overflow_cast-j c = omega (arith, turn c.requires c.loop-c.invariant c.loop-c-test.true)

pub overflow_mul-faces : goal.overflow_mul-faces
overflow_mul-faces c = omega (arith, turn c.requires c.loop-c.invariant c.loop-c-test.true)

pub overflow_add-faces : goal.overflow_add-faces
overflow_add-faces c = omega (arith, turn c.requires c.loop-c.invariant c.loop-c-test.true)

pub offset_bounds-work-n-in-loop-c : goal.offset_bounds-work-n-in-loop-c
offset_bounds-work-n-in-loop-c c = omega (arith, turn c.requires c.loop-c.invariant c.loop-c-test.true)

pub bounds-work-n-in-loop-c : goal.bounds-work-n-in-loop-c
bounds-work-n-in-loop-c c = omega (arith, turn c.requires c.loop-c.invariant c.loop-c-test.true)

pub offset_bounds-faces-c : goal.offset_bounds-faces-c
offset_bounds-faces-c c = omega (arith, turn c.requires c.loop-c.invariant c.loop-c-test.true)

pub bounds-faces-c : goal.bounds-faces-c
bounds-faces-c c = omega (arith, turn c.requires c.loop-c.invariant c.loop-c-test.true)

pub loop-c-preserved : goal.loop-c-preserved
loop-c-preserved c = again c.requires c.loop-c.invariant c.loop-c-test.true

pub shape_of-faces : goal.shape_of-faces
shape_of-faces c = c.loop-c.invariant.only.long

pub returns : goal.returns
returns c = done c.requires c.loop-c.invariant c.loop-c-test.false
