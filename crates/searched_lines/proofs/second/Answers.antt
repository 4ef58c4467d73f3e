-- `searched_lines::second` meets its contract: off, or faces are marked, their lines measured, and they are swept. Assumes nothing.
use native.Mathlib.Omega.{arith}
use Rattle.rules.specs.Pass2.{pass2}
use Rattle.rules.specs.Mending.{lines2}
use Rattle.searched_marks.proofs.Marking.{sweep_ok}
use Rattle.searched_lines.proofs.Passing.{off_told, on_told, plain, words_ask, second_told}
use Rattle.searched_lines.proofs.second.Goals as goal

pub returns-then-not-on : goal.returns-then-not-on
returns-then-not-on c = off_told 2 pass2 lines2 (omega arith) c.requires.pass_asks c.args.on c.if-not-on.true

pub mark_duplicates-requires : goal.mark_duplicates-requires
mark_duplicates-requires c = record { words_ask = words_ask c.requires.pass_asks; indexed = c.requires.indexed }

pub sweep-requires : goal.sweep-requires
sweep-requires c = sweep_ok (plain c.requires.pass_asks) c.mark_duplicates.ensures

pub returns : goal.returns
returns c = on_told 2 pass2 lines2 (second_told c.requires.pass_asks c.mark_duplicates.ensures c.marked_length-bytes.ensures c.sweep.ensures) c.args.on c.if-not-on.false
