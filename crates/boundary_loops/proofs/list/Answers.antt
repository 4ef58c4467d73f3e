-- `boundary_loops::list` meets its contract: the loops are listed, and the work room is cleared. Assumes nothing.
use Rattle.boundary_loops.proofs.Writing.{loops_asks, clear_fits, all_done}
use Rattle.boundary_loops.proofs.list.Goals as goal

pub list_loops-found-requires : goal.list_loops-found-requires
list_loops-found-requires c = loops_asks c.requires

pub wipe-requires : goal.wipe-requires
wipe-requires c = clear_fits c.requires c.list_loops-found.ensures

pub returns : goal.returns
returns c = all_done c.requires c.list_loops-found.ensures c.wipe.ensures.only c.wipe.ensures.filled
