-- `loops::list_loops` meets its contract: the loops are written and the rest of both rooms is cleared. Assumes nothing.
use native.Mathlib.Omega.{arith}
use Rattle.loops.proofs.Rooms.{trace_asks, fits, done}
use Rattle.loops.proofs.list_loops.Goals as goal

pub trace-found-requires : goal.trace-found-requires
trace-found-requires c = trace_asks c.requires

pub overflow_sub-faces : goal.overflow_sub-faces
overflow_sub-faces c = omega (arith, (fits c.requires c.trace-found.ensures).0)

pub wipe-requires : goal.wipe-requires
wipe-requires c = (fits c.requires c.trace-found.ensures).2

pub overflow_sub-faces-2 : goal.overflow_sub-faces-2
overflow_sub-faces-2 c = omega (arith, (fits c.requires c.trace-found.ensures).1)

pub wipe-requires-2 : goal.wipe-requires-2
wipe-requires-2 c = (fits c.requires c.trace-found.ensures).3

pub returns : goal.returns
returns c = done c.requires c.trace-found.ensures c.wipe.ensures.only c.wipe.ensures.filled c.wipe-2.ensures.only c.wipe-2.ensures.filled
