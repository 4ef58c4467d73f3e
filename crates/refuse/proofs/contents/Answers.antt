-- `refuse::contents` meets its contract. Assumes nothing.
use Rattle.std.proofs.lemmas.Result.{err_from_is_err_and}
use Rattle.refuse.proofs.Groups.{last, stop_at, go_past}
use Rattle.refuse.proofs.contents.Goals as goal

pub returns-in_err-coordinates : goal.returns-in_err-coordinates
returns-in_err-coordinates c = let p = err_from_is_err_and c.from_residual.result c.from_residual.ensures.1 in
    rw (p.1, p.2) (stop_at _ _ _ _ c.in_err-coordinates.ensures)

pub returns : goal.returns
returns c = go_past _ _ _ c.in_ok-coordinates.ensures (last _ _ c.corners.ensures)
