-- `refuse::strange` meets its contract. Assumes nothing.
use Rattle.refuse.proofs.Scans.{strange_none, strange_is}
use Rattle.refuse.proofs.strange.Goals as goal

pub returns-then-label-eq-NO_PATCH : goal.returns-then-label-eq-NO_PATCH
returns-then-label-eq-NO_PATCH c = strange_none _ _ c.if-label-eq-NO_PATCH.true

pub returns : goal.returns
returns c = strange_is _ _ c.if-label-eq-NO_PATCH.false
