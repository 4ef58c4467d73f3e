-- `list_lines::read_one` meets its contract: there is a field, and no other. Assumes nothing.
use Rattle.list_lines.proofs.Fields.{one_none, one_is, one_more}
use Rattle.list_lines.proofs.read_one.Goals as goal

pub returns-then-number-fields : goal.returns-then-number-fields
returns-then-number-fields c = one_is c.in_ok-number.ensures c.if-number-fields.true

pub returns-in_err-number : goal.returns-in_err-number
returns-in_err-number c = rw c.from_residual.ensures (one_none (c.in_err-number.ensures))

pub returns : goal.returns
returns c = one_more c.in_ok-number.ensures c.if-number-fields.false
