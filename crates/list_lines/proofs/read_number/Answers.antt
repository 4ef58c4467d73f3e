-- `list_lines::read_number` meets its contract: the first field ends at the next tab. Assumes nothing.
use Rattle.list_lines.proofs.Fields.{number_is, number_none}
use Rattle.list_lines.proofs.read_number.Goals as goal

pub returns-in_err-value : goal.returns-in_err-value
returns-in_err-value c = rw c.from_residual.ensures (number_none c.find-end.ensures c.requires c.in_err-value.ensures)

pub returns : goal.returns
returns c = number_is c.find-end.ensures c.requires c.in_ok-value.ensures
