-- `edge_check::distinct` meets its contract: no face before i repeats a corner. Assumes nothing.
use mathlib.Core.Path.{sym, ◌∙◌}
use Rattle.refuse.proofs.Scans.{clean_begin, clean_more}
use Rattle.edge_check.proofs.Corners.{all_distinct, one_repeats}
use Rattle.edge_check.proofs.distinct.Goals as goal

pub loop-i-init : goal.loop-i-init
loop-i-init c = clean_begin _ _

pub repeats-requires : goal.repeats-requires
repeats-requires c = c.loop-i-test.true

pub returns-then-repeats : goal.returns-then-repeats
returns-then-repeats c = one_repeats _ _ c.loop-i-test.true (sym c.repeats.ensures ∙ c.if-repeats.true)

pub loop-i-preserved : goal.loop-i-preserved
loop-i-preserved c = clean_more _ _ _ c.loop-i.invariant c.loop-i-test.true (sym c.repeats.ensures ∙ c.if-repeats.false)

pub returns : goal.returns
returns c = all_distinct _ _ c.loop-i.invariant c.loop-i-test.false
