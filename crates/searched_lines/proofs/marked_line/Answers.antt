-- `searched_lines::marked_line` meets its contract: by its word. Assumes nothing.
use native.Mathlib.Omega.{arith}
use Rattle.rule_laws.proofs.Digits.{decimal_short}
use Rattle.searched_lines.proofs.Lining.{marked_line_is, unmarked_none}
use Rattle.searched_lines.proofs.marked_line.Goals as goal

pub overflow_add-result-then-words-f-eq1 : goal.overflow_add-result-then-words-f-eq1
overflow_add-result-then-words-f-eq1 c = omega (arith, decimal_short c.args.f, c.number_length.ensures, c.requires.asks)

pub returns-then-words-f-eq1 : goal.returns-then-words-f-eq1
returns-then-words-f-eq1 c = marked_line_is c.args.n c.args.words.now c.args.f c.if-words-f-eq1.true c.number_length.ensures

pub returns : goal.returns
returns c = unmarked_none c.args.n c.args.words.now c.args.f c.if-words-f-eq1.false
