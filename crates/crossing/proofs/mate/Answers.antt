-- `crossing::mate` meets its contract. Assumes nothing.
use native.Mathlib.Omega.{arith}
use lib.ListN.{length-set}
use Rattle.crossing.proofs.Mating.{mate_bounds, mate_entries, mate_none, mate_gives}
use Rattle.crossing.proofs.mate.Goals as goal

pub overflow_add-from : goal.overflow_add-from
overflow_add-from c = omega (arith, mate_bounds c.requires)

pub offset_bounds-work-starts : goal.offset_bounds-work-starts
offset_bounds-work-starts c = omega (arith, mate_bounds c.requires)

pub bounds-work-starts : goal.bounds-work-starts
bounds-work-starts c = omega (arith, mate_bounds c.requires)

pub overflow_add-to : goal.overflow_add-to
overflow_add-to c = omega (arith, mate_bounds c.requires)

pub overflow_add-to-2 : goal.overflow_add-to-2
overflow_add-to-2 c = omega (arith, mate_bounds c.requires)

pub offset_bounds-work-starts-2 : goal.offset_bounds-work-starts-2
offset_bounds-work-starts-2 c = omega (arith, mate_bounds c.requires)

pub bounds-work-starts-2 : goal.bounds-work-starts-2
bounds-work-starts-2 c = omega (arith, mate_bounds c.requires)

pub overflow_sub-to : goal.overflow_sub-to
overflow_sub-to c = omega (arith, mate_bounds c.requires)

pub returns-then-to-from-gt2 : goal.returns-then-to-from-gt2
returns-then-to-from-gt2 c = mate_none c.requires

pub bounds-work-from : goal.bounds-work-from
bounds-work-from c = omega (arith, mate_bounds c.requires)

pub bounds-work-to : goal.bounds-work-to
bounds-work-to c = omega (arith, mate_bounds c.requires)

pub offset_bounds-work-n : goal.offset_bounds-work-n
offset_bounds-work-n c = omega (arith, mate_bounds c.requires, mate_entries c.requires)

pub bounds-work-n : goal.bounds-work-n
bounds-work-n c = omega (arith, mate_bounds c.requires, mate_entries c.requires)

pub bounds-work-n-2 : goal.bounds-work-n-2
bounds-work-n-2 c = simp length-set (omega (arith, mate_bounds c.requires, mate_entries c.requires))

pub returns : goal.returns
returns c = mate_gives c.requires c.if-to-from-gt2.false
