-- `text_fields::read_real` meets its contract: the first bytes are what is written for n. Assumes nothing.
use mathlib.Core.Path.{sym, ap, ◌∙◌}
use mathlib.Core.Option.{some}
use native.Mathlib.Omega.{arith}
use Rattle.text_fields.proofs.Bytes.{nibble_of}
use Rattle.text_fields.proofs.Hex.{nibbles_begin, nibbles_turn, nibbles_again, no_nibble, nibbles_done, none_other}
use Rattle.text_fields.proofs.read_real.Goals as goal

pub returns-then-field-ne16 : goal.returns-then-field-ne16
returns-then-field-ne16 c = none_other _ c.if-field-ne16.true

pub loop-byte-init : goal.loop-byte-init
loop-byte-init c = nibbles_begin

pub overflow_mul-n : goal.overflow_mul-n
overflow_mul-n c = omega (arith, nibbles_turn c.loop-byte.invariant (omega (arith, c.loop-byte-test.true, c.if-field-ne16.false)))

pub returns-in_err-n : goal.returns-in_err-n
returns-in_err-n c = rw c.from_residual.ensures (no_nibble c.loop-byte.invariant (omega (arith, c.loop-byte-test.true, c.if-field-ne16.false)) c.if-field-ne16.false (sym c.in_err-n.ensures))

pub overflow_add-n : goal.overflow_add-n
overflow_add-n c = omega (arith, nibbles_turn c.loop-byte.invariant (omega (arith, c.loop-byte-test.true, c.if-field-ne16.false)), (nibble_of _ _ (sym c.in_ok-n.ensures)).low)

pub loop-byte-preserved : goal.loop-byte-preserved
loop-byte-preserved c = nibbles_again c.loop-byte.invariant (omega (arith, c.loop-byte-test.true, c.if-field-ne16.false)) c.if-field-ne16.false _ (sym c.in_ok-n.ensures)

pub returns : goal.returns
returns c = ap some c.float.ensures ∙ nibbles_done c.loop-byte.invariant c.if-field-ne16.false (omega (arith, c.loop-byte-test.false, c.if-field-ne16.false))
