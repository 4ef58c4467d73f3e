-- `single_use::at_odds` meets its contract: by how many entries the run has, and where two begin. Assumes nothing.
use mathlib.Core.Path.{refl}
use native.Mathlib.Omega.{arith}
use Rattle.orienting.proofs.Reached.{not_both}
use Rattle.single_use.proofs.Scanning.{bounds, one_entry, pair, two_entries}
use Rattle.single_use.proofs.at_odds.Goals as goal

pub overflow_add-a : goal.overflow_add-a
overflow_add-a c = omega (arith, bounds c.requires)

pub offset_bounds-work-starts : goal.offset_bounds-work-starts
offset_bounds-work-starts c = omega (arith, bounds c.requires)

pub bounds-work-starts : goal.bounds-work-starts
bounds-work-starts c = omega (arith, bounds c.requires)

pub overflow_add-b : goal.overflow_add-b
overflow_add-b c = omega (arith, bounds c.requires)

pub overflow_add-b-2 : goal.overflow_add-b-2
overflow_add-b-2 c = omega (arith, bounds c.requires)

pub offset_bounds-work-starts-2 : goal.offset_bounds-work-starts-2
offset_bounds-work-starts-2 c = omega (arith, bounds c.requires)

pub bounds-work-starts-2 : goal.bounds-work-starts-2
bounds-work-starts-2 c = omega (arith, bounds c.requires)

pub overflow_sub-b : goal.overflow_sub-b
overflow_sub-b c = omega (arith, bounds c.requires)

pub returns-then-b-a-lt2 : goal.returns-then-b-a-lt2
returns-then-b-a-lt2 c = λ e. one_entry c.requires (omega arith)

pub returns-then-b-a-gt2 : goal.returns-then-b-a-gt2
returns-then-b-a-gt2 c = λ e. absurd (not_both refl e)

pub alike-requires : goal.alike-requires
alike-requires c = pair c.requires (omega arith) (omega arith)

pub returns : goal.returns
returns c = two_entries c.requires (omega arith) (omega arith) c.alike.ensures
