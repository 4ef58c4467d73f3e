-- `halves::rounds` meets its contract. The invariant: the keys below `low` are passed, and no edge there is crowded. Assumes nothing.
use Prim.Native.Nat.{◌-◌}
use Rattle.halves.proofs.Ranges.{Going}
use Rattle.halves.proofs.rounds.Given as goal

abbrev pub invariant-loop-low : goal.invariant-loop-low
invariant-loop-low l = Going l.faces l.points l.top l.initial.buffer l.size l.buffer l.low l.s

abbrev pub decreases-loop-low : goal.decreases-loop-low
decreases-loop-low l = l.top - l.low
