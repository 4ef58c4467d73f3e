-- `drawing::prepare` meets its contract: in a room of zeros by the table, and else by the faces alone. Assumes nothing.
use mathlib.Core.Path.{sym, ◌∙◌}
use native.Mathlib.Omega.{arith}
use Rattle.std.proofs.lemmas.Result.{err_from_is_err_and}
use Rattle.drawing.proofs.Preparing.{taken_fits, zero_ready, zero_refused, alone_refused, alone_fine}
use Rattle.drawing.proofs.prepare.Goals as goal

pub is_zero-requires : goal.is_zero-requires
is_zero-requires c = taken_fits c.requires c.args.loops c.taken-size.ensures

pub clear-requires : goal.clear-requires
clear-requires c = omega (arith, taken_fits c.requires c.args.loops c.taken-size.ensures, c.draw-found.ensures.only.long)

pub returns-then-is_err : goal.returns-then-is_err
returns-then-is_err c =
    zero_refused c.requires _ (sym c.is_err.ensures.value ∙ c.if-is_err.true) c.taken-size.ensures (sym c.is_zero.ensures ∙ c.if-is_zero.true) c.draw-found.ensures c.clear.ensures.only c.clear.ensures.filled

pub returns-else-is_err : goal.returns-else-is_err
returns-else-is_err c = zero_ready c.requires _ (sym c.is_err.ensures.value ∙ c.if-is_err.false) c.draw-found.ensures

pub returns-in_err-alone : goal.returns-in_err-alone
returns-in_err-alone c = let p = err_from_is_err_and c.from_residual.result c.from_residual.ensures.1 in
    rw (p.1, p.2) (alone_refused c.requires c.in_err-alone.ensures)

pub returns : goal.returns
returns c = alone_fine c.requires c.in_ok-alone.ensures _ c.draw.ensures
