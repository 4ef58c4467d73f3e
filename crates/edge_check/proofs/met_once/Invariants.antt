-- `edge_check::met_once` meets its contract: each mark is the number of groups met at its point. Assumes nothing.
use Rattle.edge_check.proofs.Meeting.{Met}
use Rattle.edge_check.proofs.met_once.Given as goal

abbrev pub invariant-loop-c : goal.invariant-loop-c
invariant-loop-c l = Met l.count l.faces l.initial.work l.work l.c
