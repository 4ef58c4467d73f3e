-- `list_room::all_are` meets its contract: each entry before i is c. Assumes nothing.
use Prim.Native.Nat.{◌-◌}
use Rattle.list_room.proofs.Uniforms.{Sofar}
use Rattle.list_room.proofs.all_are.Given as goal

abbrev pub invariant-loop-i : goal.invariant-loop-i
invariant-loop-i l = Sofar l.work l.n l.c l.i
