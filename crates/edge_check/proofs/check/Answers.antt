-- `edge_check::check` meets its contract: the checks refuse, or the answer is found and the work room cleared. Assumes nothing.
use native.Mathlib.Omega.{arith}
use Rattle.std.proofs.lemmas.Result.{err_from_is_err_and}
use Rattle.edge_check.proofs.Ending.{is_refused, is_accepted, still_fits, is_done}
use Rattle.edge_check.proofs.check.Goals as goal

pub returns-in_err-edge_check_refusal : goal.returns-in_err-edge_check_refusal
returns-in_err-edge_check_refusal c = let p = err_from_is_err_and c.from_residual.result c.from_residual.ensures.1 in
    rw (p.1, p.2) (is_refused _ _ _ _ c.in_err-edge_check_refusal.ensures)

pub sound-answer-requires : goal.sound-answer-requires
sound-answer-requires c = let s = c.args in
    is_accepted s.count s.faces.now s.work.now c.in_ok-edge_check_refusal.ensures

pub overflow_mul-count : goal.overflow_mul-count
overflow_mul-count c = let s = c.args in
    omega (arith, (is_accepted s.count s.faces.now s.work.now c.in_ok-edge_check_refusal.ensures).input)

pub overflow_mul-faces : goal.overflow_mul-faces
overflow_mul-faces c = let s = c.args in
    omega (arith, (is_accepted s.count s.faces.now s.work.now c.in_ok-edge_check_refusal.ensures).input)

pub overflow_add-count : goal.overflow_add-count
overflow_add-count c = let s = c.args in
    omega (arith, (is_accepted s.count s.faces.now s.work.now c.in_ok-edge_check_refusal.ensures).input)

pub overflow_add-count-2 : goal.overflow_add-count-2
overflow_add-count-2 c = let s = c.args in
    omega (arith, (is_accepted s.count s.faces.now s.work.now c.in_ok-edge_check_refusal.ensures).input)

pub wipe-requires : goal.wipe-requires
wipe-requires c = omega (arith, still_fits _ _ _ c.in_ok-edge_check_refusal.ensures c.sound-answer.ensures)

pub returns : goal.returns
returns c = let g = c.wipe.ensures in
    is_done _ _ _ c.in_ok-edge_check_refusal.ensures c.sound-answer.ensures g.only g.filled
