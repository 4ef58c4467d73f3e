-- `line::line` meets its contract: the checks decide, and an accepted line is put and closed with zeros. Assumes nothing.
use mathlib.Core.Path.{sym}
use native.Mathlib.Omega.{arith}
use Rattle.std.proofs.lemmas.Result.{err_from_is_err_and}
use Rattle.line_refusal.proofs.Accept.{line_accepted}
use Rattle.line.proofs.Whole.{zeros_asks, refused_done, line_done}
use Rattle.line.proofs.line.Goals as goal

pub put_line-end-requires : goal.put_line-end-requires
put_line-end-requires c = line_accepted _ _ (sym c.in_ok-line_refusal.ensures)

pub returns-in_err-line_refusal : goal.returns-in_err-line_refusal
returns-in_err-line_refusal c = let p = err_from_is_err_and c.from_residual.result c.from_residual.ensures.1 in
    rw (p.1, p.2) (refused_done _ _ _ c.in_err-line_refusal.ensures)

pub slice_bounds-fill-end : goal.slice_bounds-fill-end
slice_bounds-fill-end c = omega (arith, zeros_asks (line_accepted _ _ (sym c.in_ok-line_refusal.ensures)) c.put_line-end.ensures)

pub returns : goal.returns
returns c = line_done _ _ c.in_ok-line_refusal.ensures c.put_line-end.ensures (c.fill.ensures.after (λ y e. e))
