-- `crossing::open` meets its contract. Assumes nothing.
use native.Mathlib.Omega.{arith}
use Rattle.crossing.proofs.Settling.{settle_bounds, was_crossed}
use Rattle.crossing.proofs.open.Goals as goal

pub overflow_mul-r : goal.overflow_mul-r
overflow_mul-r c = omega (arith, settle_bounds c.requires)

pub overflow_add-n-2 : goal.overflow_add-n-2
overflow_add-n-2 c = omega (arith, settle_bounds c.requires)

pub offset_bounds-work-n : goal.offset_bounds-work-n
offset_bounds-work-n c = omega (arith, settle_bounds c.requires)

pub bounds-work-n : goal.bounds-work-n
bounds-work-n c = omega (arith, settle_bounds c.requires)

pub settle-requires : goal.settle-requires
settle-requires c = c.requires

pub returns-then-work-n-eq0 : goal.returns-then-work-n-eq0
returns-then-work-n-eq0 c = c.settle.ensures

pub returns-else-work-n-eq0 : goal.returns-else-work-n-eq0
returns-else-work-n-eq0 c = was_crossed c.requires c.if-work-n-eq0.false
