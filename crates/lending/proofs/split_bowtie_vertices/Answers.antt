-- `lending::split_bowtie_vertices` meets its contract: the pass's own, and each sum fits, since each count left room. Assumes nothing.
use mathlib.Core.Path.{refl}
use native.Mathlib.Omega.{arith}
use Rattle.rules.specs.State.{place, more, vertices_split, points_added}
use Rattle.lending.proofs.Raised.{fits}
use Rattle.lending.proofs.split_bowtie_vertices.Goals as goal

-- the pass may start
pub pass5-r-requires : goal.pass5-r-requires
pass5-r-requires c = c.requires.0

-- the count left room for what is added
pub overflow_add-report : goal.overflow_add-report
unfolding place
overflow_add-report c = omega (arith, fits vertices_split c.requires.1 c.pass5-r.ensures.few_found)

-- the count left room for what is added
pub overflow_add-report-2 : goal.overflow_add-report-2
unfolding place
overflow_add-report-2 c = omega (arith, fits points_added c.requires.1 c.pass5-r.ensures.few_changed)

-- the lists are the pass's, and the report has the sums
pub returns : goal.returns
unfolding more place
returns c = (c.pass5-r.ensures, refl)
