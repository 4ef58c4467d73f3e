-- `refuse_try::label_rows` meets its contract: antt runs the rules. Assumes nothing.
use Rattle.rules.specs.Open.{every_rule}
use Rattle.refuse_try.proofs.label_rows.Goals as goal

pub accepted-requires : goal.accepted-requires
unfolding every_rule
accepted-requires c = c.patches.ensures

pub refused-requires : goal.refused-requires
unfolding every_rule
refused-requires c = c.patches-2.ensures

pub refused-requires-2 : goal.refused-requires-2
unfolding every_rule
refused-requires-2 c = c.patches-3.ensures

pub refused-requires-3 : goal.refused-requires-3
unfolding every_rule
refused-requires-3 c = c.patches-4.ensures
