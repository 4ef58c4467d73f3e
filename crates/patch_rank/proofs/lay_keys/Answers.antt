-- `patch_rank::lay_keys` meets its contract: the keys before k are there. Assumes nothing.
use native.Mathlib.Omega.{arith}
use lib.ListN.{length-set}
use Rattle.patch_rank.proofs.Laying.{begin, turn, number, again, done}
use Rattle.patch_rank.proofs.lay_keys.Goals as goal

pub loop-k-init : goal.loop-k-init
loop-k-init c = begin c.requires

pub overflow_mul-bits : goal.overflow_mul-bits
overflow_mul-bits c = omega (arith, turn c.requires c.loop-k.invariant c.loop-k-test.true)

pub offset_bounds-numbers-k : goal.offset_bounds-numbers-k
offset_bounds-numbers-k c = omega (arith, turn c.requires c.loop-k.invariant c.loop-k-test.true)

pub bounds-numbers-k : goal.bounds-numbers-k
bounds-numbers-k c = omega (arith, turn c.requires c.loop-k.invariant c.loop-k-test.true)

pub float_to_bits-bits : goal.float_to_bits-bits
float_to_bits-bits c = number c.requires c.loop-k.invariant c.loop-k-test.true

pub overflow_cast-work : goal.overflow_cast-work
overflow_cast-work c = omega (arith, turn c.requires c.loop-k.invariant c.loop-k-test.true)

pub overflow_mul-work : goal.overflow_mul-work
overflow_mul-work c = omega (arith, turn c.requires c.loop-k.invariant c.loop-k-test.true)

pub offset_bounds-work-k : goal.offset_bounds-work-k
offset_bounds-work-k c = omega (arith, turn c.requires c.loop-k.invariant c.loop-k-test.true)

pub bounds-work-k : goal.bounds-work-k
bounds-work-k c = omega (arith, turn c.requires c.loop-k.invariant c.loop-k-test.true)

pub overflow_cast-work-in-loop-k : goal.overflow_cast-work-in-loop-k
overflow_cast-work-in-loop-k c = omega (arith, turn c.requires c.loop-k.invariant c.loop-k-test.true)

pub overflow_mul-work-in-loop-k : goal.overflow_mul-work-in-loop-k
overflow_mul-work-in-loop-k c = omega (arith, turn c.requires c.loop-k.invariant c.loop-k-test.true)

pub overflow_add-work : goal.overflow_add-work
overflow_add-work c = omega (arith, turn c.requires c.loop-k.invariant c.loop-k-test.true)

pub offset_bounds-work-k-in-loop-k : goal.offset_bounds-work-k-in-loop-k
offset_bounds-work-k-in-loop-k c = omega (arith, turn c.requires c.loop-k.invariant c.loop-k-test.true)

pub bounds-work-k-in-loop-k : goal.bounds-work-k-in-loop-k
bounds-work-k-in-loop-k c = simp length-set (omega (arith, turn c.requires c.loop-k.invariant c.loop-k-test.true))

pub loop-k-preserved : goal.loop-k-preserved
loop-k-preserved c = again c.requires c.loop-k.invariant c.loop-k-test.true

pub shape_of-work : goal.shape_of-work
shape_of-work c = c.loop-k.invariant.only.long

pub returns : goal.returns
returns c = done c.requires c.loop-k.invariant c.loop-k-test.false
