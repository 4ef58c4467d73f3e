-- `write_ply::write_ply` meets its contract: the check refuses, or the parts of the file are put and the work room is cleared. Assumes nothing.
use Rattle.std.proofs.lemmas.Result.{err_from_is_err_and}
use Rattle.write_ply.proofs.Ending.{is_refused, limits, header_asks, reals_ask, triples_ask, wipe_ask, is_done}
use Rattle.write_ply.proofs.write_ply.Goals as goal

pub returns-in_err-write_ply_refusal : goal.returns-in_err-write_ply_refusal
returns-in_err-write_ply_refusal c = let p = err_from_is_err_and c.from_residual.result c.from_residual.ensures.1 in
    rw (p.1, p.2) (is_refused c.args.points.now c.args.faces.now c.args.file.now c.args.work.now _ c.in_err-write_ply_refusal.ensures)

pub put_header-a-requires : goal.put_header-a-requires
put_header-a-requires c = header_asks c.args.points.now c.args.faces.now c.args.file.now c.args.work.now c.in_ok-write_ply_refusal.ensures

pub put_reals-b-requires : goal.put_reals-b-requires
put_reals-b-requires c = reals_ask c.args.points.now c.args.faces.now c.args.file.now c.args.work.now c.in_ok-write_ply_refusal.ensures c.put_header-a.ensures

pub put_triples-c-requires : goal.put_triples-c-requires
put_triples-c-requires c = triples_ask c.args.points.now c.args.faces.now c.args.file.now c.args.work.now c.in_ok-write_ply_refusal.ensures c.put_header-a.ensures c.put_reals-b.ensures

pub stated_work-requires : goal.stated_work-requires
stated_work-requires c = limits c.args.points.now c.args.faces.now c.args.file.now c.args.work.now c.in_ok-write_ply_refusal.ensures

pub wipe-requires : goal.wipe-requires
wipe-requires c = wipe_ask c.args.points.now c.args.faces.now c.args.file.now c.args.work.now c.in_ok-write_ply_refusal.ensures c.stated_work.ensures

pub returns : goal.returns
returns c = is_done c.args.points.now c.args.faces.now c.args.file.now c.args.work.now c.in_ok-write_ply_refusal.ensures c.put_header-a.ensures c.put_reals-b.ensures c.put_triples-c.ensures
    c.stated_work.ensures c.wipe.ensures.only c.wipe.ensures.filled
