-- `boundary::add` meets its contract. Assumes nothing.
use native.Mathlib.Omega.{arith}
use Rattle.boundary.proofs.Adding.{long₁, long₂, second_read, added}
use Rattle.boundary.proofs.add.Goals as goal

pub bounds-work-row-3 : goal.bounds-work-row-3
bounds-work-row-3 c = omega (arith, c.requires, long₁ c.requires)

pub overflow_add-work-6 : goal.overflow_add-work-6
overflow_add-work-6 c = omega (arith, c.requires, second_read c.requires)

pub bounds-work-row-4 : goal.bounds-work-row-4
bounds-work-row-4 c = omega (arith, c.requires, long₁ c.requires)

pub bounds-work-row-5 : goal.bounds-work-row-5
bounds-work-row-5 c = omega (arith, c.requires, long₂ c.requires)

pub returns : goal.returns
returns c = added c.requires
