-- `lending::drop_duplicate_faces` meets its contract: the pass's own, and each sum fits, since each count left room. Assumes nothing.
use mathlib.Core.Path.{refl}
use native.Mathlib.Omega.{arith}
use Rattle.rules.specs.State.{place, more, duplicates}
use Rattle.lending.proofs.Raised.{fits}
use Rattle.lending.proofs.drop_duplicate_faces.Goals as goal

-- the pass may start
pub pass2-r-requires : goal.pass2-r-requires
pass2-r-requires c = c.requires.0

-- the count left room for what is added
pub overflow_add-report : goal.overflow_add-report
unfolding place
overflow_add-report c = omega (arith, fits duplicates c.requires.1 c.pass2-r.ensures.few_dropped)

-- the lists are the pass's, and the report has the sums
pub returns : goal.returns
unfolding more place
returns c = (c.pass2-r.ensures, refl)
