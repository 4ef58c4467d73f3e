-- `lending::orient_consistently` meets its contract: the pass's own, and each sum fits, since each count left room. Assumes nothing.
use mathlib.Core.Path.{refl}
use native.Mathlib.Omega.{arith}
use Rattle.rules.specs.State.{place, more, reoriented, components, dropped_for_direction}
use Rattle.lending.proofs.Raised.{fits}
use Rattle.lending.proofs.orient_consistently.Goals as goal

-- the pass may start
pub pass4-r-requires : goal.pass4-r-requires
pass4-r-requires c = c.requires.0

-- the count left room for what is added
pub overflow_add-report : goal.overflow_add-report
unfolding place
overflow_add-report c = omega (arith, fits reoriented c.requires.1 c.pass4-r.ensures.few_changed)

-- the count left room for what is added
pub overflow_add-report-2 : goal.overflow_add-report-2
unfolding place
overflow_add-report-2 c = omega (arith, fits components c.requires.1 c.pass4-r.ensures.few_found)

-- the count left room for what is added
pub overflow_add-report-3 : goal.overflow_add-report-3
unfolding place
overflow_add-report-3 c = omega (arith, fits dropped_for_direction c.requires.1 c.pass4-r.ensures.few_dropped)

-- the lists are the pass's, and the report has the sums
pub returns : goal.returns
unfolding more place
returns c = (c.pass4-r.ensures, refl)
