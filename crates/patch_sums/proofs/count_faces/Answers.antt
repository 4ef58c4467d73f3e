-- `patch_sums::count_faces` meets its contract: each count is that of the labels passed. Assumes nothing.
use mathlib.Core.Path.{◌∙◌}
use native.Mathlib.Omega.{arith}
use Rattle.patch_sums.proofs.Counting.{begin, turn, counts, skips, done}
use Rattle.patch_sums.proofs.count_faces.Goals as goal
use Rattle.patch_sums.proofs.count_faces.Goals.{else-patch, then-patch}

pub clear-requires : goal.clear-requires
clear-requires c = omega (arith, c.requires.fit)

pub loop-i-init : goal.loop-i-init
loop-i-init c = begin c.requires c.clear.ensures.only c.clear.ensures.filled

pub offset_bounds-labels-i : goal.offset_bounds-labels-i
offset_bounds-labels-i c = omega (arith, c.loop-i-test.true, c.requires.few)

pub bounds-labels-i : goal.bounds-labels-i
bounds-labels-i c = c.loop-i-test.true

pub overflow_cast-counts : goal.overflow_cast-counts
overflow_cast-counts c = omega (arith, turn c.requires c.clear.ensures.only.long c.loop-i.invariant c.loop-i-test.true c.if-patch.true)

pub offset_bounds-counts-patch : goal.offset_bounds-counts-patch
offset_bounds-counts-patch c = omega (arith, turn c.requires c.clear.ensures.only.long c.loop-i.invariant c.loop-i-test.true c.if-patch.true)

pub bounds-counts-patch : goal.bounds-counts-patch
bounds-counts-patch c = (turn c.requires c.clear.ensures.only.long c.loop-i.invariant c.loop-i-test.true c.if-patch.true).fit

pub overflow_add-counts : goal.overflow_add-counts
overflow_add-counts c = omega (arith, turn c.requires c.clear.ensures.only.long c.loop-i.invariant c.loop-i-test.true c.if-patch.true)

pub bounds-counts-patch-then-patch : goal.bounds-counts-patch-then-patch
bounds-counts-patch-then-patch c = (turn c.requires c.clear.ensures.only.long c.loop-i.invariant c.loop-i-test.true c.if-patch.true).fit

pub loop-i-preserved : goal.loop-i-preserved
loop-i-preserved c = elim c.if-patch.branch [ then-patch w ↦ rw w.counts-is (counts c.requires c.clear.ensures.only.long c.loop-i.invariant c.loop-i-test.true w.if-patch.true) | else-patch w ↦ rw w.counts-is (skips c.requires c.clear.ensures.only.long c.loop-i.invariant c.loop-i-test.true w.if-patch.false) ]

pub shape_of-counts : goal.shape_of-counts
shape_of-counts c = c.loop-i.invariant.only.long ∙ c.clear.ensures.only.long

pub returns : goal.returns
returns c = done c.requires c.clear.ensures.only c.loop-i.invariant c.loop-i-test.false
