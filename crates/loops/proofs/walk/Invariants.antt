-- `loops::walk` meets its contract: the vertices passed are listed and lead nowhere. Assumes nothing.
use Prim.Native.Nat.{◌-◌}
use Rattle.loops.specs.Walks.{WalkAsks}
use Rattle.loops.proofs.Walking.{Walked}
use Rattle.loops.proofs.walk.Given as goal

abbrev pub invariant-loop-to : goal.invariant-loop-to
invariant-loop-to l = (q : WalkAsks l.initial.work l.points l.next l.spare l.v) → Walked q l.work l.u l.to l.k

abbrev pub decreases-loop-to : goal.decreases-loop-to
decreases-loop-to l = l.points - l.k
