-- `read_ply::read_ply` meets its contract: the check refuses, or coordinates and triples are stored and the work room is cleared. Assumes nothing.
use Rattle.std.proofs.lemmas.Result.{err_from_is_err_and}
use native.Mathlib.Omega.{arith}
use Rattle.read_ply.proofs.Ending.{is_refused, sizes, limits, coordinates_ask, triples_ask, wipe_ask, is_done}
use Rattle.read_ply.proofs.read_ply.Goals as goal

pub returns-in_err-header : goal.returns-in_err-header
returns-in_err-header c = let p = err_from_is_err_and c.from_residual.result c.from_residual.ensures.1 in
    rw (p.1, p.2) (is_refused c.args.file.now c.args.points.now c.args.faces.now c.args.work.now _ c.in_err-header.ensures.checks)

pub overflow_mul-p : goal.overflow_mul-p
overflow_mul-p c = omega (arith, sizes c.args.file.now c.args.points.now c.args.faces.now c.args.work.now c.in_ok-header.ensures.checks c.in_ok-header.ensures.header)

pub coordinates-requires : goal.coordinates-requires
coordinates-requires c = coordinates_ask c.args.file.now c.args.points.now c.args.faces.now c.args.work.now c.in_ok-header.ensures.checks c.in_ok-header.ensures.header

pub overflow_mul-p-2 : goal.overflow_mul-p-2
overflow_mul-p-2 c = omega (arith, sizes c.args.file.now c.args.points.now c.args.faces.now c.args.work.now c.in_ok-header.ensures.checks c.in_ok-header.ensures.header)

pub overflow_add-header : goal.overflow_add-header
overflow_add-header c = omega (arith, sizes c.args.file.now c.args.points.now c.args.faces.now c.args.work.now c.in_ok-header.ensures.checks c.in_ok-header.ensures.header)

pub triples-requires : goal.triples-requires
triples-requires c = triples_ask c.args.file.now c.args.points.now c.args.faces.now c.args.work.now c.in_ok-header.ensures.checks c.in_ok-header.ensures.header

pub stated_work-requires : goal.stated_work-requires
stated_work-requires c = limits c.args.file.now c.args.points.now c.args.faces.now c.args.work.now c.in_ok-header.ensures.checks c.in_ok-header.ensures.header

pub wipe-requires : goal.wipe-requires
wipe-requires c = wipe_ask c.args.file.now c.args.points.now c.args.faces.now c.args.work.now c.in_ok-header.ensures.checks c.in_ok-header.ensures.header c.stated_work.ensures

pub overflow_mul-result : goal.overflow_mul-result
overflow_mul-result c = omega (arith, sizes c.args.file.now c.args.points.now c.args.faces.now c.args.work.now c.in_ok-header.ensures.checks c.in_ok-header.ensures.header)

pub overflow_mul-result-2 : goal.overflow_mul-result-2
overflow_mul-result-2 c = omega (arith, sizes c.args.file.now c.args.points.now c.args.faces.now c.args.work.now c.in_ok-header.ensures.checks c.in_ok-header.ensures.header)

pub returns : goal.returns
returns c = is_done c.args.file.now c.args.points.now c.args.faces.now c.args.work.now c.in_ok-header.ensures.checks c.in_ok-header.ensures.header c.coordinates.ensures c.triples.ensures c.stated_work.ensures c.wipe.ensures.only c.wipe.ensures.filled
