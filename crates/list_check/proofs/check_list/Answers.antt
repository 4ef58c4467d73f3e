-- `list_check::check_list` meets its contract: the lines before the `u` lines, the used points, the `u` lines. Assumes nothing.
use native.Mathlib.Omega.{arith}
use Rattle.std.proofs.lemmas.Result.{err_from_is_err_and}
use Rattle.list_check.proofs.Whole.{whole_bad, whole_none, used_asks, sizes, unused_asks, whole_unused}
use Rattle.list_check.proofs.check_list.Goals as goal

pub put_used-requires : goal.put_used-requires
put_used-requires c = used_asks c.requires (rw c.in-Some.is at c.in_ok-change_lines.ensures)

pub overflow_add-points : goal.overflow_add-points
overflow_add-points c = omega (arith, sizes c.requires (rw c.in-Some.is at c.in_ok-change_lines.ensures))

pub unused_lines-requires : goal.unused_lines-requires
unused_lines-requires c = unused_asks c.requires (rw c.in-Some.is at c.in_ok-change_lines.ensures) c.put_used.ensures

pub returns-in_err-change_lines : goal.returns-in_err-change_lines
returns-in_err-change_lines c = let p = err_from_is_err_and c.from_residual.result c.from_residual.ensures.1 in rw (p.1, p.2) (whole_bad c.requires c.in_err-change_lines.ensures)

pub returns-in-None : goal.returns-in-None
returns-in-None c = whole_none c.requires (rw c.in-None.is at c.in_ok-change_lines.ensures)

pub returns-in-Some : goal.returns-in-Some
returns-in-Some c = whole_unused c.requires (rw c.in-Some.is at c.in_ok-change_lines.ensures) c.put_used.ensures c.unused_lines.ensures
