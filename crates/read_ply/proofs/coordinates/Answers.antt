-- `read_ply::coordinates` meets its contract: those before i are stored. Assumes nothing.
use native.Mathlib.Omega.{arith}
use Rattle.read_ply.proofs.Pointing.{begin, turn, again, done}
use Rattle.read_ply.proofs.coordinates.Goals as goal

pub loop-i-init : goal.loop-i-init
loop-i-init c = begin c.requires

pub overflow_mul-i : goal.overflow_mul-i
overflow_mul-i c = omega (arith, turn c.requires c.loop-i.invariant c.loop-i-test.true)

pub overflow_add-at : goal.overflow_add-at
overflow_add-at c = omega (arith, turn c.requires c.loop-i.invariant c.loop-i-test.true)

pub real_at-requires : goal.real_at-requires
real_at-requires c = omega (arith, turn c.requires c.loop-i.invariant c.loop-i-test.true)

pub offset_bounds-points-i : goal.offset_bounds-points-i
offset_bounds-points-i c = omega (arith, turn c.requires c.loop-i.invariant c.loop-i-test.true)

pub bounds-points-i : goal.bounds-points-i
bounds-points-i c = omega (arith, turn c.requires c.loop-i.invariant c.loop-i-test.true)

pub loop-i-preserved : goal.loop-i-preserved
loop-i-preserved c = again c.requires c.loop-i.invariant c.loop-i-test.true c.real_at.ensures

pub shape_of-points : goal.shape_of-points
shape_of-points c = c.loop-i.invariant.only.long

pub returns : goal.returns
returns c = done c.requires c.loop-i.invariant c.loop-i-test.false
