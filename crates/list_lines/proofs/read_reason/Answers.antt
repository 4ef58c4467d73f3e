-- `list_lines::read_reason` meets its contract: two fields. Assumes nothing.
use native.Mathlib.Omega.{arith}
use Rattle.list_lines.proofs.Reasons.{told_none, told_short, told_more, told_word}
use Rattle.list_lines.proofs.read_reason.Goals as goal

pub returns-in_err-pass : goal.returns-in_err-pass
returns-in_err-pass c = rw c.from_residual.ensures (told_none (c.in_err-pass.ensures))

pub returns-then-pass-fields : goal.returns-then-pass-fields
returns-then-pass-fields c = told_short c.in_ok-pass.ensures c.if-pass-fields.true

pub overflow_add-pass : goal.overflow_add-pass
overflow_add-pass c = omega (arith, c.in_ok-pass.ensures)

pub find-end-requires : goal.find-end-requires
find-end-requires c = omega (arith, c.in_ok-pass.ensures, c.if-pass-fields.false)

pub returns-then-end-fields : goal.returns-then-end-fields
returns-then-end-fields c = told_more c.in_ok-pass.ensures c.if-pass-fields.false c.find-end.ensures c.if-end-fields.true

pub returns : goal.returns
returns c = told_word c.in_ok-pass.ensures c.if-pass-fields.false c.find-end.ensures c.if-end-fields.false _ c.reason_of.ensures
