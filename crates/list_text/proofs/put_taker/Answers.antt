-- `list_text::put_taker` meets its contract. Assumes nothing.
use native.Mathlib.Omega.{arith}
use borrow.Author.Tests.{eq-eqb, ne_eqb}
use Rattle.byte_rows.proofs.Putting.{puts_none}
use Rattle.list_text.proofs.put_taker.Goals as goal

pub returns-then-i-last : goal.returns-then-i-last
returns-then-i-last c = rw (eq-eqb _ _ c.if-i-last.true) (puts_none (omega (arith, c.requires.last_in_bounds)))

pub put_field-requires : goal.put_field-requires
put_field-requires c = rw (ne_eqb _ _ c.if-i-last.false) at c.requires.last_in_bounds

pub returns : goal.returns
returns c = rw (ne_eqb _ _ c.if-i-last.false) c.put_field.ensures
