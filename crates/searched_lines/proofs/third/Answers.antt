-- `searched_lines::third` meets its contract: off, or faces are marked, their lines measured, and they are swept. Assumes nothing.
use native.Mathlib.Omega.{arith}
use Rattle.rules.specs.Pass3.{pass3}
use Rattle.rules.specs.Mending.{lines3}
use Rattle.searched_marks.proofs.Marking.{sweep_ok}
use Rattle.searched_lines.proofs.Passing.{off_told, on_told, plain, pass_ask, third_told}
use Rattle.searched_lines.proofs.third.Goals as goal

pub returns-then-not-on : goal.returns-then-not-on
returns-then-not-on c = off_told 2 pass3 lines3 (omega arith) c.requires.pass_asks c.args.on c.if-not-on.true

pub mark_at_edges-requires : goal.mark_at_edges-requires
mark_at_edges-requires c = record { pass_asks = pass_ask c.requires.pass_asks; indexed = c.requires.indexed }

pub sweep-requires : goal.sweep-requires
sweep-requires c = sweep_ok (plain c.requires.pass_asks) c.mark_at_edges.ensures

pub returns : goal.returns
returns c = on_told 2 pass3 lines3 (third_told c.requires.pass_asks c.mark_at_edges.ensures c.marked_length-bytes.ensures c.sweep.ensures) c.args.on c.if-not-on.false
