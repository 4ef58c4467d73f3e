-- `listing::list_lengths` meets its contract: the lengths are written and the rest is cleared. Assumes nothing.
use Rattle.listing.proofs.Lengths.{lengths_asks, room_done}
use Rattle.listing.proofs.list_lengths.Goals as goal

pub put_lengths-requires : goal.put_lengths-requires
put_lengths-requires c = lengths_asks c.requires

pub returns : goal.returns
returns c = room_done c.requires c.put_lengths.ensures c.wipe.ensures.only c.wipe.ensures.filled
