-- `windows::windowed` meets its contract. Assumes nothing.
use Rattle.std.proofs.lemmas.Result.{err_from_is_err_and}
use Rattle.std.proofs.lemmas.List.{length-replicate}
use Rattle.halves.proofs.Judging.{met_right}
use Rattle.windows.proofs.windowed.Goals as goal

pub all-requires : goal.all-requires
all-requires g c = record { faces = c.requires.accepted; entries_fit = simp length-replicate c.requires.entries_fit }

pub returns-in_err-t : goal.returns-in_err-t
returns-in_err-t g c = let p = err_from_is_err_and c.from_residual.result c.from_residual.ensures.1 in
    rw (p.1, p.2) (met_right c.in_err-t.ensures.told)

pub returns : goal.returns
returns g c = c.judge.ensures.right _ c.in_ok-t.ensures.told
