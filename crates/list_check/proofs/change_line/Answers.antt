-- `list_check::change_line` meets its contract: by the line that was read. Assumes nothing.
use mathlib.Core.Path.{refl}
use Rattle.list_check.proofs.Points.{step_nothing, step_on}
use Rattle.list_check.proofs.change_line.Goals as goal

pub returns-in_err-read_line : goal.returns-in_err-read_line
returns-in_err-read_line c = rw c.from_residual.ensures (step_nothing _ _ _ _ _ _ _ _ _ _ c.in_err-read_line.ensures)

pub returns-in_ok-step-in-Dropped : goal.returns-in_ok-step-in-Dropped
returns-in_ok-step-in-Dropped c = step_on (rw c.in-Dropped.is at c.in_ok-read_line.ensures) (c.in_ok-step-in-Dropped.ensures _ _ _ refl c.requires.ready)

pub returns-in_ok-step-in-Exchange : goal.returns-in_ok-step-in-Exchange
returns-in_ok-step-in-Exchange c = step_on (rw c.in-Exchange.is at c.in_ok-read_line.ensures) (c.in_ok-step-in-Exchange.ensures _ _ _ refl c.requires.ready)
