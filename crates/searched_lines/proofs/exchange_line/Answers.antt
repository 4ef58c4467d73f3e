-- `searched_lines::exchange_line` meets its contract: by its word and its corners. Assumes nothing.
use native.Mathlib.Omega.{arith}
use Rattle.rule_laws.proofs.Digits.{decimal_short}
use Rattle.searched_lines.proofs.Lining.{gone_unturned, straight_none, equal_none, turned_line}
use Rattle.searched_lines.proofs.exchange_line.Goals as goal

pub returns-then-not-stands : goal.returns-then-not-stands
returns-then-not-stands c = gone_unturned c.args.faces.now c.args.words.now c.args.f c.stands.ensures c.if-not-stands.true

pub returns-then-words-f-eq0 : goal.returns-then-words-f-eq0
returns-then-words-f-eq0 c = straight_none c.args.faces.now c.args.words.now c.args.f c.stands.ensures c.if-not-stands.false c.if-words-f-eq0.true

pub returns-then-faces-f : goal.returns-then-faces-f
returns-then-faces-f c = equal_none c.args.faces.now c.args.words.now c.args.f c.stands.ensures c.if-not-stands.false c.if-words-f-eq0.false c.if-faces-f.true

pub overflow_add-result : goal.overflow_add-result
overflow_add-result c = omega (arith, decimal_short c.args.f, c.number_length.ensures)

pub returns : goal.returns
returns c = turned_line c.args.faces.now c.args.words.now c.args.f c.stands.ensures c.if-not-stands.false c.if-words-f-eq0.false c.if-faces-f.false c.number_length.ensures
