-- `edges::list` meets its contract: each room is written in turn, and the work room is cleared. Assumes nothing.
use Rattle.edges.proofs.Writing.{edges-asks, lengths_asks, face-edges-asks, clear_fits, all_done}
use Rattle.edges.proofs.list.Goals as goal

pub list_edges-requires : goal.list_edges-requires
list_edges-requires c = edges-asks c.requires

pub list_lengths-requires : goal.list_lengths-requires
list_lengths-requires c = lengths_asks c.requires c.list_edges.ensures

pub list_face_edges-requires : goal.list_face_edges-requires
list_face_edges-requires c = face-edges-asks c.requires

pub wipe-requires : goal.wipe-requires
wipe-requires c = clear_fits c.requires

pub returns : goal.returns
returns c = all_done c.requires c.list_edges.ensures c.list_lengths.ensures c.list_face_edges.ensures c.wipe.ensures.only c.wipe.ensures.filled
