-- `list_lines::read_exchange` meets its contract: one number. Assumes nothing.
use Rattle.rules.specs.Mending.{exchange}
use Rattle.list_lines.proofs.Telling.{one_bad, one_good}
use Rattle.list_lines.proofs.read_exchange.Goals as goal

pub returns-in_err-face : goal.returns-in_err-face
returns-in_err-face c = rw c.from_residual.ensures (one_bad exchange _ c.in_err-face.ensures)

pub returns : goal.returns
returns c = one_good exchange _ _ _ (c.in_ok-face.ensures)
