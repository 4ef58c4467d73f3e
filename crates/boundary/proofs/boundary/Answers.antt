-- `boundary::boundary` meets its contract: 7, then the rows are made, and 8 by the rows. Assumes nothing.
use Rattle.std.proofs.lemmas.Result.{err_from_is_err_and}
use Rattle.boundary.proofs.Ending.{crowd-asks, refused_seven, trace_asks, refused_eight, fine}
use Rattle.boundary.proofs.boundary.Goals as goal

pub crowd-requires : goal.crowd-requires
crowd-requires c = crowd-asks c.requires

pub returns-in_err-crowd : goal.returns-in_err-crowd
returns-in_err-crowd c = let p = err_from_is_err_and c.from_residual.result c.from_residual.ensures.1 in
    rw (p.1, p.2) (refused_seven c.requires _ c.in_err-crowd.ensures)

pub trace-requires : goal.trace-requires
trace-requires c = trace_asks c.requires c.in_ok-crowd.ensures c.clear.ensures.only c.clear.ensures.filled c.fill.ensures.only c.fill.ensures.filled

pub returns-in-Some : goal.returns-in-Some
returns-in-Some c = refused_eight c.requires c.in_ok-crowd.ensures c.clear.ensures.only c.clear.ensures.filled c.fill.ensures.only c.fill.ensures.filled c.trace.ensures c.in-Some.ensures

pub returns-in-None : goal.returns-in-None
returns-in-None c = fine c.requires c.in_ok-crowd.ensures c.clear.ensures.only c.clear.ensures.filled c.fill.ensures.only c.fill.ensures.filled c.trace.ensures c.in-None.ensures
