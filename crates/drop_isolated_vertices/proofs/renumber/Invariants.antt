-- `drop_isolated_vertices::renumber` meets its contract: the corners passed have their numbers. Assumes nothing.
use Rattle.drop_isolated_vertices.proofs.Renumbering.{Renumbered}
use Rattle.drop_isolated_vertices.proofs.renumber.Given as goal

abbrev pub invariant-loop-k : goal.invariant-loop-k
invariant-loop-k l = Renumbered l.initial.faces l.n l.work l.numbers l.faces l.k
