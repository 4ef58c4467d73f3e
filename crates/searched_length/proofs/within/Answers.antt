-- `searched_length::within` meets its contract: the rows are long enough. Assumes nothing.
use Rattle.searched_length.proofs.Rows.{zero_room}
use Rattle.searched_length.proofs.within.Goals as goal

pub in_rows-requires : goal.in_rows-requires
in_rows-requires g c = zero_room _ _ c.requires.accepted c.requires.words c.requires.index
