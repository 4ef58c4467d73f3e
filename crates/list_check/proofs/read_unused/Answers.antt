-- `list_check::read_unused` meets its contract: by the line that was read. Assumes nothing.
use Rattle.list_check.proofs.Unused.{other_none, other_dropped, other_exchange, other_split}
use Rattle.list_check.proofs.read_unused.Goals as goal

pub returns-in_err-point : goal.returns-in_err-point
returns-in_err-point c = rw c.from_residual.ensures (other_none c.in_err-point.ensures)

pub returns-in-Isolated : goal.returns-in-Isolated
returns-in-Isolated c = rw c.in-Isolated.is at c.in_ok-point.ensures

pub returns-in-Dropped : goal.returns-in-Dropped
returns-in-Dropped c = other_dropped (rw c.in-Dropped.is at c.in_ok-point.ensures)

pub returns-in-Exchange : goal.returns-in-Exchange
returns-in-Exchange c = other_exchange (rw c.in-Exchange.is at c.in_ok-point.ensures)

pub returns-in-Split : goal.returns-in-Split
returns-in-Split c = other_split (rw c.in-Split.is at c.in_ok-point.ensures)
