-- `refuse_try::rooms` meets its contract: antt runs the rules. Assumes nothing.
use Rattle.rules.specs.Open.{every_rule}
use Rattle.refuse_try.proofs.rooms.Goals as goal

pub refused-requires : goal.refused-requires
unfolding every_rule
refused-requires c = c.repair.ensures

pub refused-requires-2 : goal.refused-requires-2
unfolding every_rule
refused-requires-2 c = c.repair-2.ensures

pub refused-requires-3 : goal.refused-requires-3
unfolding every_rule
refused-requires-3 c = c.repair-3.ensures

pub refused-requires-4 : goal.refused-requires-4
unfolding every_rule
refused-requires-4 c = c.repair-4.ensures

pub refused-requires-5 : goal.refused-requires-5
unfolding every_rule
refused-requires-5 c = c.repair-5.ensures

pub accepted-requires : goal.accepted-requires
unfolding every_rule
accepted-requires c = c.edges.ensures

pub refused-requires-6 : goal.refused-requires-6
unfolding every_rule
refused-requires-6 c = c.edges-2.ensures

pub refused-requires-7 : goal.refused-requires-7
unfolding every_rule
refused-requires-7 c = c.edges-3.ensures

pub refused-requires-8 : goal.refused-requires-8
unfolding every_rule
refused-requires-8 c = c.edges-4.ensures

pub accepted-requires-2 : goal.accepted-requires-2
unfolding every_rule
accepted-requires-2 c = c.loops.ensures

pub refused-requires-9 : goal.refused-requires-9
unfolding every_rule
refused-requires-9 c = c.loops-2.ensures

pub refused-requires-10 : goal.refused-requires-10
unfolding every_rule
refused-requires-10 c = c.loops-3.ensures

pub refused-requires-11 : goal.refused-requires-11
unfolding every_rule
refused-requires-11 c = c.loops-4.ensures
