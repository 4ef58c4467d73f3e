-- `searched_walk::empty_stack` meets its contract. The invariant: what is left of the rule's run ends where it ends. Assumes nothing.
use Prim.Native.Nat.{◌-◌}
use Rattle.searched_walk.proofs.Popping.{Emptying}
use Rattle.searched_walk.proofs.empty_stack.Given as goal

abbrev pub invariant-loop-turn : goal.invariant-loop-turn
invariant-loop-turn l = Emptying l.faces l.initial.words l.initial.now l.n l.words l.now (l.n - l._turn)
