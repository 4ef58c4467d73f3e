-- `searched_lines::fourth` meets its contract: off, or faces are oriented, and those that then collide leave. Assumes nothing.
use native.Mathlib.Omega.{arith}
use Rattle.rules.specs.Pass4.{pass4}
use Rattle.rules.specs.Mending.{lines4}
use Rattle.searched_marks.proofs.Marking.{sweep_ok}
use Rattle.searched_lines.proofs.Passing.{off_told, on_told, turn_ask, fourth_told}
use Rattle.searched_lines.proofs.fourth.Goals as goal

pub returns-then-not-on : goal.returns-then-not-on
returns-then-not-on c = off_told 4 pass4 lines4 (omega arith) c.requires.pass_asks c.args.on c.if-not-on.true

pub mark_at_steps-requires : goal.mark_at_steps-requires
mark_at_steps-requires c = record { pass_asks = turn_ask c.requires.pass_asks c.walk.ensures; indexed = c.requires.indexed }

pub sweep-requires : goal.sweep-requires
sweep-requires c = sweep_ok (turn_ask c.requires.pass_asks c.walk.ensures).plain c.mark_at_steps.ensures

pub returns : goal.returns
returns c = on_told 4 pass4 lines4 (fourth_told c.requires.pass_asks c.walk.ensures c.exchange_length-turned.ensures c.mark_at_steps.ensures c.marked_length-bytes.ensures c.sweep.ensures) c.args.on c.if-not-on.false
