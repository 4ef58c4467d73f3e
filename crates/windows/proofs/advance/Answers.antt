-- `windows::advance` meets its contract. Assumes nothing.
use Rattle.std.proofs.Common.{arith}
use Rattle.std.proofs.lemmas.Result.{err_from_is_err_and}
use Rattle.windows.proofs.Advancing.{one_asks, some_asks, some_in, one_step, some_step, crowd}
use Rattle.windows.proofs.advance.Goals as goal

pub alone-requires : goal.alone-requires
alone-requires c = one_asks c.requires c.min-limit.ensures (omega (arith, c.min-room.ensures)) c.fit-w.auto.ends c.clear.auto.work c.fit-w.ensures c.clear.ensures.filled (omega (arith, c.min-room.ensures)) c.if-w-eq0.true

pub returns-in_err-r : goal.returns-in_err-r
returns-in_err-r c = let p = err_from_is_err_and c.from_residual.result c.from_residual.ensures.1 in
    rw (p.1, p.2) (crowd (omega (arith, c.requires.left)) c.in_err-r.ensures)

pub overflow_add-result : goal.overflow_add-result
overflow_add-result c = omega (arith, c.requires.left, c.requires.faces.points)

pub returns-then-w-eq0 : goal.returns-then-w-eq0
returns-then-w-eq0 c = one_step c.requires c.min-limit.ensures (omega (arith, c.min-room.ensures)) c.fit-w.auto.ends c.clear.auto.work c.fit-w.ensures c.clear.ensures.filled c.in_ok-r.ensures

pub together-requires : goal.together-requires
together-requires c = some_asks c.requires c.min-limit.ensures (omega (arith, c.min-room.ensures)) c.fit-w.auto.ends c.clear.auto.work c.fit-w.ensures c.clear.ensures.filled (omega (arith, c.min-room.ensures))

pub returns-in_err-r-2 : goal.returns-in_err-r-2
returns-in_err-r-2 c = let p = err_from_is_err_and c.from_residual-in_err-r-2.result c.from_residual-in_err-r-2.ensures.1 in
    rw (p.1, p.2) (crowd (some_in c.requires c.min-limit.ensures (omega (arith, c.min-room.ensures)) c.fit-w.auto.ends c.clear.auto.work c.fit-w.ensures c.clear.ensures.filled) c.in_err-r-2.ensures)

pub overflow_add-result-2 : goal.overflow_add-result-2
overflow_add-result-2 c = omega (arith, some_in c.requires c.min-limit.ensures (omega (arith, c.min-room.ensures)) c.fit-w.auto.ends c.clear.auto.work c.fit-w.ensures c.clear.ensures.filled, c.requires.faces.points)

pub returns : goal.returns
returns c = some_step c.requires c.min-limit.ensures (omega (arith, c.min-room.ensures)) c.fit-w.auto.ends c.clear.auto.work c.fit-w.ensures c.clear.ensures.filled c.if-w-eq0.false c.in_ok-r-2.ensures
