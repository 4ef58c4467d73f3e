-- `refuse::labelling` meets its contract. Assumes nothing.
use Rattle.std.proofs.lemmas.Result.{err_from_is_err_and}
use Rattle.refuse.proofs.Groups.{last, stop_at, go_past}
use Rattle.refuse.proofs.Singles.{as_many, other_number}
use Rattle.refuse.proofs.labelling.Goals as goal

pub returns-in_err-known : goal.returns-in_err-known
returns-in_err-known c = let p = err_from_is_err_and c.from_residual.result c.from_residual.ensures.1 in
    rw (p.1, p.2) (stop_at _ _ _ _ c.in_err-known.ensures)

pub returns-then-labels-f : goal.returns-then-labels-f
returns-then-labels-f c = go_past _ _ _ c.in_ok-known.ensures (last _ _ (as_many _ _ c.if-labels-f.true))

pub returns : goal.returns
returns c = go_past _ _ _ c.in_ok-known.ensures (last _ _ (other_number _ _ c.if-labels-f.false))
