-- `orient_consistently::empty_stack` meets its contract: one face a turn. Assumes nothing.
use Rattle.orient_consistently.proofs.Popping.{EmptyInv}
use Rattle.orient_consistently.proofs.empty_stack.Given as goal

abbrev pub invariant-loop : goal.invariant-loop
invariant-loop l = EmptyInv l.initial.work l.faces l.n l.work l.counter
