-- `listing::list_edges` meets its contract: the edges are written and the rest is cleared. Assumes nothing.
use native.Mathlib.Omega.{arith}
use Rattle.listing.proofs.Ends.{fewer, rest_fits, room_done}
use Rattle.listing.proofs.list_edges.Goals as goal

pub overflow_mul-m : goal.overflow_mul-m
overflow_mul-m c = let p = c.requires in
    omega (arith, fewer p, p.room)

pub overflow_mul-m-2 : goal.overflow_mul-m-2
overflow_mul-m-2 c = let p = c.requires in
    omega (arith, fewer p, p.room)

pub overflow_sub-faces : goal.overflow_sub-faces
overflow_sub-faces c = let p = c.requires in
    omega (arith, fewer p, p.room)

pub wipe-requires : goal.wipe-requires
wipe-requires c = rest_fits c.requires c.put_edges.ensures

pub returns : goal.returns
returns c = λ q. room_done q c.put_edges.ensures c.wipe.ensures.only c.wipe.ensures.filled
