-- `patch_rank::mark` meets its contract: the flags before k, and the place of the next patch at the cut. Assumes nothing.
use native.Mathlib.Omega.{arith}
use Rattle.patch_rank.proofs.Scanning.{mark_begin, place_few, mark_fit, mark_at, mark_past, mark_done}
use Rattle.patch_rank.proofs.mark.Goals as goal
use Rattle.patch_rank.proofs.mark.Goals.{else-key-t, then-key-t}

pub loop-k-init : goal.loop-k-init
loop-k-init c = mark_begin c.requires

pub key_at-key-requires : goal.key_at-key-requires
key_at-key-requires c = let p = c.requires in omega (arith, p.fit, c.loop-k-test.true)

pub offset_bounds-flags-k : goal.offset_bounds-flags-k
offset_bounds-flags-k c = omega (arith, c.loop-k-test.true, c.requires.few)

pub bounds-flags-k : goal.bounds-flags-k
bounds-flags-k c = mark_fit c.requires c.loop-k.invariant c.loop-k-test.true

pub overflow_add-place : goal.overflow_add-place
overflow_add-place c = omega (arith, place_few c.requires c.loop-k.invariant c.loop-k-test.true, c.requires.few)

pub loop-k-preserved : goal.loop-k-preserved
loop-k-preserved c = let p = c.requires in
    let ek = c.key_at-key.ensures in
    let ef = c.flag.ensures in
    elim c.if-key-t.branch [ then-key-t w ↦ rw w.place-is (mark_at p c.loop-k.invariant c.loop-k-test.true ek ef w.if-key-t.true) | else-key-t w ↦ rw w.place-is (mark_past p c.loop-k.invariant c.loop-k-test.true ek ef w.if-key-t.false) ]

pub shape_of-flags : goal.shape_of-flags
shape_of-flags c = c.loop-k.invariant.only.long

pub returns : goal.returns
returns c = mark_done c.requires c.loop-k.invariant c.loop-k-test.false
