-- `drop_isolated_vertices::clear_used` meets its contract: a corner that is passed has its flag cleared. Assumes nothing.
use Rattle.drop_isolated_vertices.proofs.Using.{Used}
use Rattle.drop_isolated_vertices.proofs.clear_used.Given as goal

abbrev pub invariant-loop-corner : goal.invariant-loop-corner
invariant-loop-corner l = Used l.faces l.n l.count l.initial.work l.work l.corner-index
