-- `list_check::check_within` meets its contract: the rows are long enough. Assumes nothing.
use Rattle.list_check.proofs.Whole.{zero_rows}
use Rattle.list_check.proofs.check_within.Goals as goal

pub check_list-requires : goal.check_list-requires
check_list-requires g c = zero_rows _ _ c.requires.input c.requires.bytes c.requires.bits
