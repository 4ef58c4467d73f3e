-- `text_fields::read_plain` meets its contract: the first bytes are what is written for n. Assumes nothing.
use mathlib.Core.Path.{sym}
use native.Mathlib.Omega.{arith}
use Rattle.text_fields.proofs.Bytes.{digit_of}
use Rattle.text_fields.proofs.Numbers.{digits_begin, digits_turn, digits_again, no_digit, digits_done, none_empty, none_long, none_lead, just_zero}
use Rattle.text_fields.proofs.read_plain.Goals as goal

pub returns-then-field-eq0 : goal.returns-then-field-eq0
returns-then-field-eq0 c = none_empty _ c.if-field-eq0.true

pub returns-then-field-gt19 : goal.returns-then-field-gt19
returns-then-field-gt19 c = none_long _ c.if-field-gt19.true

pub returns-then-field-gt1 : goal.returns-then-field-gt1
returns-then-field-gt1 c = none_lead _ c.if-field-eq48.true c.if-field-gt1.true

pub returns-then-field-eq48 : goal.returns-then-field-eq48
returns-then-field-eq48 c = just_zero _ c.if-field-eq48.true (omega arith)

pub loop-byte-init : goal.loop-byte-init
loop-byte-init c = digits_begin

pub overflow_mul-n : goal.overflow_mul-n
overflow_mul-n c = omega (arith, digits_turn c.loop-byte.invariant c.loop-byte-test.true c.if-field-gt19.false)

pub returns-in_err-n : goal.returns-in_err-n
returns-in_err-n c = rw c.from_residual.ensures (no_digit c.loop-byte.invariant c.loop-byte-test.true (sym c.in_err-n.ensures))

pub overflow_add-n : goal.overflow_add-n
overflow_add-n c = omega (arith, digits_turn c.loop-byte.invariant c.loop-byte-test.true c.if-field-gt19.false, (digit_of _ _ (sym c.in_ok-n.ensures)).low)

pub loop-byte-preserved : goal.loop-byte-preserved
loop-byte-preserved c = digits_again c.loop-byte.invariant c.loop-byte-test.true c.if-field-eq48.false _ (sym c.in_ok-n.ensures)

pub returns : goal.returns
returns c = digits_done c.loop-byte.invariant c.loop-byte-test.false (omega (arith, c.if-field-eq0.false)) c.if-field-gt19.false
