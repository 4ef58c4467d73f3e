-- `lending::resolve_nonmanifold_edges` meets its contract: the pass's own, and each sum fits, since each count left room. Assumes nothing.
use mathlib.Core.Path.{refl}
use native.Mathlib.Omega.{arith}
use Rattle.rules.specs.State.{place, more, crowded_edges, dropped_at_edges}
use Rattle.lending.proofs.Raised.{fits}
use Rattle.lending.proofs.resolve_nonmanifold_edges.Goals as goal

-- the pass may start
pub pass3-r-requires : goal.pass3-r-requires
pass3-r-requires c = c.requires.0

-- the count left room for what is added
pub overflow_add-report : goal.overflow_add-report
unfolding place
overflow_add-report c = omega (arith, fits crowded_edges c.requires.1 c.pass3-r.ensures.few_found)

-- the count left room for what is added
pub overflow_add-report-2 : goal.overflow_add-report-2
unfolding place
overflow_add-report-2 c = omega (arith, fits dropped_at_edges c.requires.1 c.pass3-r.ensures.few_dropped)

-- the lists are the pass's, and the report has the sums
pub returns : goal.returns
unfolding more place
returns c = (c.pass3-r.ensures, refl)
