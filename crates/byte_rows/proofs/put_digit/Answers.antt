-- `bytes::put_digit` meets its contract. Assumes nothing.
use Rattle.byte_rows.proofs.Putting.{puts_one}
use Rattle.byte_rows.proofs.put_digit.Goals as goal

pub returns : goal.returns
returns c = puts_one _ _ _ c.requires.room
