-- `ply_file::contents` meets its contract: each check found nothing, or decides. Assumes nothing.
use Rattle.std.proofs.lemmas.Result.{err_from_is_err_and}
use Rattle.refuse.proofs.Groups.{stop_at, go_past, last}
use Rattle.ply_file.proofs.Deciding.{five}
use Rattle.ply_file.proofs.contents.Goals as goal

pub returns-in_err-triples : goal.returns-in_err-triples
returns-in_err-triples c = let p = err_from_is_err_and c.from_residual.result c.from_residual.ensures.1 in
    rw (p.1, p.2) (stop_at _ _ _ _ c.in_err-triples.ensures)

pub returns-in_err-vertices : goal.returns-in_err-vertices
returns-in_err-vertices c = let p = err_from_is_err_and c.from_residual-in_err-vertices.result c.from_residual-in_err-vertices.ensures.1 in
    rw (p.1, p.2) (go_past _ _ _ c.in_ok-triples.ensures (stop_at _ _ _ _ c.in_err-vertices.ensures))

pub returns : goal.returns
returns c = go_past _ _ _ c.in_ok-triples.ensures (go_past _ _ _ c.in_ok-vertices.ensures (last _ _ (five c.requires c.corners.ensures)))
