-- `searched_fans::reach` meets its contract: face after face is gone through, until none waits. The measure is how many were not. Assumes nothing.
use mathlib.Core.Path.{◌≡◌}
use mathlib.Core.List.{List}
use Prim.Native.Nat.{ℕ, ◌+◌}
use lib.ListN.{get_or, set}
use Rattle.searched_fans.specs.Reaching.{ReachAsks}
use Rattle.searched_fans.proofs.Spreading.{Spread, Next, rest}
use Rattle.searched_fans.proofs.reach.Given as goal

abbrev pub invariant-loop-waiting : goal.invariant-loop-waiting
invariant-loop-waiting l = record {
  spread : ((base : List ℕ) (q : ReachAsks l.faces base l.f l.v) → l.initial.words ≡ set base l.f (get_or base l.f 0 + 4) → Spread q l.words);
  next : Next l.words l.waiting;
}

abbrev pub decreases-loop-waiting : goal.decreases-loop-waiting
decreases-loop-waiting l = rest l.words
