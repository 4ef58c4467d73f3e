-- `refuse_try::lengths` meets its contract: antt runs the rules. Assumes nothing.
use Rattle.rules.specs.Open.{every_rule}
use Rattle.refuse_try.proofs.lengths.Goals as goal

pub refused-requires : goal.refused-requires
unfolding every_rule
refused-requires c = c.repair.ensures

pub refused-requires-2 : goal.refused-requires-2
unfolding every_rule
refused-requires-2 c = c.repair-2.ensures

pub accepted-requires : goal.accepted-requires
unfolding every_rule
accepted-requires c = c.repair-3.ensures
