-- `crossing::mate_all` meets its contract: one run a turn. Assumes nothing.
use Rattle.crossing.proofs.Mating.{MateInv}
use Rattle.crossing.proofs.mate_all.Given as goal

abbrev pub invariant-loop-r : goal.invariant-loop-r
invariant-loop-r l = MateInv l.initial.work l.faces l.n l.m l.work l.r
