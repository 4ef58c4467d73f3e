-- `crossing::cross` meets its contract: the one face across is met, or the edge is crossed by what is noted. Assumes nothing.
use native.Mathlib.Omega.{arith}
use Rattle.crossing.proofs.Crossings.{cross_bounds, many_asks, meet_asks, meet_gives}
use Rattle.crossing.proofs.cross.Goals as goal

pub offset_bounds-work-n : goal.offset_bounds-work-n
offset_bounds-work-n c = omega (arith, cross_bounds c.requires)

pub bounds-work-n : goal.bounds-work-n
bounds-work-n c = omega (arith, cross_bounds c.requires)

pub overflow_mul-r : goal.overflow_mul-r
overflow_mul-r c = omega (arith, cross_bounds c.requires)

pub cross_many-requires : goal.cross_many-requires
cross_many-requires c = many_asks c.requires

pub meet-requires : goal.meet-requires
meet-requires c = meet_asks c.requires c.if-across-eq0.false

pub returns-then-across-eq0 : goal.returns-then-across-eq0
returns-then-across-eq0 c = c.cross_many.ensures

pub returns-else-across-eq0 : goal.returns-else-across-eq0
returns-else-across-eq0 c = meet_gives c.requires c.if-across-eq0.false c.meet.ensures
