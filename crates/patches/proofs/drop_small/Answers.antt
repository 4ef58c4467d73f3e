-- `patches::drop_small` meets its contract: the flags before k are decided. Assumes nothing.
use native.Mathlib.Omega.{arith}
use Rattle.patches.proofs.Flags.{drop_begin, drop_turn, drop_one, keep_one, drop_done}
use Rattle.patches.proofs.drop_small.Goals as goal
use Rattle.patches.proofs.drop_small.Goals.{else-falls, then-falls}

pub loop-k-init : goal.loop-k-init
loop-k-init c = drop_begin c.requires

pub read-r-requires : goal.read-r-requires
read-r-requires c = (drop_turn c.requires c.loop-k.invariant c.loop-k-test.true).fit

pub offset_bounds-face_counts-k : goal.offset_bounds-face_counts-k
offset_bounds-face_counts-k c = omega (arith, c.loop-k-test.true, c.requires.few)

pub bounds-face_counts-k : goal.bounds-face_counts-k
bounds-face_counts-k c = (drop_turn c.requires c.loop-k.invariant c.loop-k-test.true).counts_fit

pub offset_bounds-flags-k : goal.offset_bounds-flags-k
offset_bounds-flags-k c = omega (arith, c.loop-k-test.true, c.requires.few)

pub bounds-flags-k : goal.bounds-flags-k
bounds-flags-k c = (drop_turn c.requires c.loop-k.invariant c.loop-k-test.true).flags_fit

pub loop-k-preserved : goal.loop-k-preserved
loop-k-preserved c = let p = c.requires in
    let er = c.read-r.ensures in
    let ef = c.falls.ensures in
    elim c.if-falls.branch [ then-falls w ↦ rw w.flags-is (drop_one p c.loop-k.invariant c.loop-k-test.true er ef w.if-falls.true) | else-falls w ↦ rw w.flags-is (keep_one p c.loop-k.invariant c.loop-k-test.true er ef w.if-falls.false) ]

pub shape_of-flags : goal.shape_of-flags
shape_of-flags c = c.loop-k.invariant.only.long

pub returns : goal.returns
returns c = drop_done c.requires c.loop-k.invariant c.loop-k-test.false
