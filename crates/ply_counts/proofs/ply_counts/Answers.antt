-- `ply_counts::ply_counts` meets its contract: the header, then the counts. Assumes nothing.
use mathlib.Core.List.{[]}
use Rattle.std.proofs.lemmas.Result.{err_from_is_err_and}
use Rattle.refuse.specs.declared.Refusal.TheVariants.{BadPly}
use Rattle.ply_file.proofs.Deciding.{is_formless, is_opened}
use Rattle.ply_counts.proofs.Ending.{is_refused, is_done}
use Rattle.ply_counts.proofs.ply_counts.Goals as goal

pub returns-in_default : goal.returns-in_default
returns-in_default c = is_refused _ BadPly (is_formless _ [] c.in_default.ensures)

pub returns-in_err-counts : goal.returns-in_err-counts
returns-in_err-counts c = let p = err_from_is_err_and c.from_residual.result c.from_residual.ensures.1 in
    rw (p.1, p.2) (is_refused _ _ (is_opened c.in-Some.ensures c.in_err-counts.ensures))

pub returns : goal.returns
returns c = is_done c.in-Some.ensures (is_opened c.in-Some.ensures c.in_ok-counts.ensures)
