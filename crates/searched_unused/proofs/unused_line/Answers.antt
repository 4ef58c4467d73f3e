-- `searched_unused::unused_line` meets its contract. Assumes nothing.
use native.Mathlib.Omega.{arith}
use Rattle.rule_laws.proofs.Digits.{decimal_short}
use Rattle.searched_unused.proofs.Adding.{used_none, unused_line_is}
use Rattle.searched_unused.proofs.unused_line.Goals as goal

pub returns-then-is_used : goal.returns-then-is_used
returns-then-is_used c = used_none c.args.faces.now c.args.words.now c.args.v c.is_used.ensures c.if-is_used.true

pub overflow_add-result : goal.overflow_add-result
overflow_add-result c = omega (arith, decimal_short c.args.v, c.number_length.ensures)

pub returns : goal.returns
returns c = unused_line_is c.args.faces.now c.args.words.now c.args.v c.is_used.ensures c.if-is_used.false c.number_length.ensures
