-- `list_text::taker_length` meets its contract. Assumes nothing.
use mathlib.Core.Path.{refl}
use native.Mathlib.Omega.{arith}
use lib.ListN.{get_or}
use borrow.Author.Tests.{eq-eqb, ne_eqb}
use Rattle.rule_laws.proofs.Digits.{decimal_short}
use Rattle.list_text.proofs.taker_length.Goals as goal

pub returns-then-i-last : goal.returns-then-i-last
returns-then-i-last c = record { value = rw (eq-eqb _ _ c.if-i-last.true) refl; upper_bound = omega arith }

pub overflow_add-result : goal.overflow_add-result
overflow_add-result c = omega (arith, c.number_length.ensures, decimal_short (get_or c.args.origins.now c.args.i 0))

pub returns : goal.returns
returns c = record { value = rw (ne_eqb _ _ c.if-i-last.false) (omega (arith, c.number_length.ensures)); upper_bound = omega (arith, c.number_length.ensures, decimal_short (get_or c.args.origins.now c.args.i 0)) }
