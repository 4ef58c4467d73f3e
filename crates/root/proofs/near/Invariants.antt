-- `root::near` meets its contract. The loop's invariant is `Kept` of `proofs/Floor.antt`. Assumes nothing.
use Prim.Native.Nat.{◌-◌}
use Rattle.root.proofs.Floor.{Kept}
use Rattle.root.proofs.near.Given as goal

-- the invariant
abbrev pub invariant-loop-i : goal.invariant-loop-i
invariant-loop-i l = Kept l.n l.left l.root l.rem l.i
