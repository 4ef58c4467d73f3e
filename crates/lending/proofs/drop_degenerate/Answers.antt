-- `lending::drop_degenerate` meets its contract: the pass's own, and each sum fits, since each count left room. Assumes nothing.
use mathlib.Core.Path.{refl}
use native.Mathlib.Omega.{arith}
use Rattle.rules.specs.State.{place, more, repeateds, thins}
use Rattle.lending.proofs.Raised.{fits}
use Rattle.lending.proofs.drop_degenerate.Goals as goal

-- the pass may start
pub pass1-r-requires : goal.pass1-r-requires
pass1-r-requires c = c.requires.0

-- the count left room for what is added
pub overflow_add-report : goal.overflow_add-report
unfolding place
overflow_add-report c = omega (arith, fits repeateds c.requires.1 c.pass1-r.ensures.few_found)

-- the count left room for what is added
pub overflow_add-report-2 : goal.overflow_add-report-2
unfolding place
overflow_add-report-2 c = omega (arith, fits thins c.requires.1 c.pass1-r.ensures.few_dropped)

-- the lists are the pass's, and the report has the sums
pub returns : goal.returns
unfolding more place
returns c = (c.pass1-r.ensures, refl)
