-- `text_fields::read_whole` meets its contract: the number in plain decimal, if it is a u32. Assumes nothing.
use Rattle.text_fields.proofs.Numbers.{whole_none, whole_of}
use Rattle.text_fields.proofs.read_whole.Goals as goal

pub returns-in_err-read_plain : goal.returns-in_err-read_plain
returns-in_err-read_plain c = rw c.from_residual.ensures (whole_none _ c.in_err-read_plain.ensures)

pub returns : goal.returns
returns c = rw c.ok.ensures.value (whole_of c.in_ok-read_plain.ensures _ c.try_from.ensures)
