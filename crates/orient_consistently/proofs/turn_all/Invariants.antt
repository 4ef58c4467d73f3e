-- `orient_consistently::turn_all` meets its contract: one face a turn. Assumes nothing.
use Rattle.orient_consistently.proofs.Turning.{TurnInv}
use Rattle.orient_consistently.proofs.turn_all.Given as goal

abbrev pub invariant-loop-i : goal.invariant-loop-i
invariant-loop-i l = TurnInv l.initial.faces l.work l.n l.faces l.i
