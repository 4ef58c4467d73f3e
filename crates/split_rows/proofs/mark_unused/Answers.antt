-- `split_rows::mark_unused` meets its contract. Assumes nothing.
use Rattle.split_rows.proofs.Flags.{mark_ok, done}
use Rattle.split_rows.proofs.mark_unused.Goals as goal

pub mark-requires : goal.mark-requires
mark-requires c = mark_ok c.requires

pub returns : goal.returns
returns c = done c.requires c.mark.ensures
