-- `panel_refusal::largest` meets its contract: after k meshes the largest of them, and of the others, is that of all. Assumes nothing.
use native.Mathlib.Omega.{arith}
use Rattle.panel_refusal.proofs.Widest.{begin, larger, not_larger, done}
use Rattle.panel_refusal.proofs.largest.Goals as goal
use Rattle.panel_refusal.proofs.largest.Goals.{else-most-room, then-most-room}

pub loop-k-init : goal.loop-k-init
loop-k-init c = begin _ _

pub overflow_cast-room : goal.overflow_cast-room
overflow_cast-room c = omega (arith, c.type_inv.point_counts c.loop-k.k)

pub overflow_mul-room : goal.overflow_mul-room
overflow_mul-room c = omega (arith, c.type_inv.point_counts c.loop-k.k)

pub bounds-face_counts-k : goal.bounds-face_counts-k
bounds-face_counts-k c = omega (arith, c.requires)

pub overflow_cast-room-in-loop-k : goal.overflow_cast-room-in-loop-k
overflow_cast-room-in-loop-k c = omega (arith, c.type_inv.face_counts c.loop-k.k)

pub overflow_mul-room-in-loop-k : goal.overflow_mul-room-in-loop-k
overflow_mul-room-in-loop-k c = omega (arith, c.type_inv.face_counts c.loop-k.k)

pub overflow_add-room : goal.overflow_add-room
overflow_add-room c = omega (arith, c.type_inv.face_counts c.loop-k.k, c.type_inv.point_counts c.loop-k.k)

pub overflow_add-room-in-loop-k : goal.overflow_add-room-in-loop-k
overflow_add-room-in-loop-k c = omega (arith, c.type_inv.face_counts c.loop-k.k, c.type_inv.point_counts c.loop-k.k)

pub loop-k-preserved : goal.loop-k-preserved
loop-k-preserved c = let e = c.requires in
    elim c.if-most-room.branch [ then-most-room w ↦ rw w.most-is (larger e c.loop-k.invariant c.loop-k-test.true w.if-most-room.true) | else-most-room w ↦ rw w.most-is (not_larger e c.loop-k.invariant c.loop-k-test.true w.if-most-room.false) ]

pub returns : goal.returns
returns c = done c.requires c.loop-k.invariant c.loop-k-test.false
