-- `refuse_try::corners` meets its contract: antt runs the rules. Assumes nothing.
use Rattle.rules.specs.Open.{every_rule}
use Rattle.refuse_try.proofs.corners.Goals as goal

pub accepted-requires : goal.accepted-requires
unfolding every_rule
accepted-requires c = c.repair.ensures

pub refused-requires : goal.refused-requires
unfolding every_rule
refused-requires c = c.repair-2.ensures
