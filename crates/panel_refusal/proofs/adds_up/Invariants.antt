-- `panel_refusal::adds_up` meets its contract: after k counts the others are to add up to what is left. Assumes nothing.
use Rattle.panel_refusal.proofs.Adding.{Left}
use Rattle.panel_refusal.proofs.adds_up.Given as goal

abbrev pub invariant-loop-k : goal.invariant-loop-k
invariant-loop-k l = Left l.counts l.length l.left l.k
