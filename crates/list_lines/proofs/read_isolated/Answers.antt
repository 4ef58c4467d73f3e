-- `list_lines::read_isolated` meets its contract: one number. Assumes nothing.
use Rattle.rules.specs.Mending.{isolated_point}
use Rattle.list_lines.proofs.Telling.{one_bad, one_good}
use Rattle.list_lines.proofs.read_isolated.Goals as goal

pub returns-in_err-point : goal.returns-in_err-point
returns-in_err-point c = rw c.from_residual.ensures (one_bad isolated_point _ c.in_err-point.ensures)

pub returns : goal.returns
returns c = one_good isolated_point _ _ _ (c.in_ok-point.ensures)
