-- `refuse_try::point_counts` meets its contract: antt runs the rules. Assumes nothing.
use Rattle.rules.specs.Open.{every_rule}
use Rattle.refuse_try.proofs.point_counts.Goals as goal

pub accepted-requires : goal.accepted-requires
unfolding every_rule
accepted-requires c = c.edge_check_refusal.ensures

pub refused-requires : goal.refused-requires
unfolding every_rule
refused-requires c = c.edge_check_refusal-2.ensures

pub refused-requires-2 : goal.refused-requires-2
unfolding every_rule
refused-requires-2 c = c.edge_check_refusal-3.ensures

pub refused-requires-3 : goal.refused-requires-3
unfolding every_rule
refused-requires-3 c = c.edge_check_refusal-4.ensures

pub refused-requires-4 : goal.refused-requires-4
unfolding every_rule
refused-requires-4 c = c.edge_check_refusal-5.ensures

pub refused-requires-5 : goal.refused-requires-5
unfolding every_rule
refused-requires-5 c = c.edge_check_refusal-6.ensures
