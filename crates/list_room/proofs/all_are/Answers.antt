-- `list_room::all_are` meets its contract: each entry before i is c. Assumes nothing.
use Prim.Native.Nat.{◌-◌}
use native.Mathlib.Omega.{arith}
use Rattle.list_room.proofs.Uniforms.{begin, again, found, done}
use Rattle.list_room.proofs.all_are.Goals as goal

pub loop-i-init : goal.loop-i-init
loop-i-init c = begin

pub offset_bounds-work-i : goal.offset_bounds-work-i
offset_bounds-work-i c = omega (arith, c.requires)

pub bounds-work-i : goal.bounds-work-i
bounds-work-i c = omega (arith, c.requires)

pub returns-then-work-i : goal.returns-then-work-i
returns-then-work-i c = found c.loop-i.i (omega arith) c.if-work-i.true

pub loop-i-preserved : goal.loop-i-preserved
loop-i-preserved c = again c.loop-i.invariant (omega arith) c.if-work-i.false

pub returns : goal.returns
returns c = done c.loop-i.invariant (omega arith)
