-- `patch_sums::sum_faces` meets its contract: each record is that of the faces passed. Assumes nothing.
use mathlib.Core.Path.{◌∙◌}
use native.Mathlib.Omega.{arith}
use Rattle.patch_sums.proofs.Summing.{begin, label_in, add_asks, adds, skips, done}
use Rattle.patch_sums.proofs.sum_faces.Goals as goal
use Rattle.patch_sums.proofs.sum_faces.Goals.{else-label, then-label}

pub begin-requires : goal.begin-requires
begin-requires c = let p = c.requires in record { few = p.few; fit = p.fit }

pub loop-i-init : goal.loop-i-init
loop-i-init c = begin c.requires c.begin.ensures

pub offset_bounds-labels-i : goal.offset_bounds-labels-i
offset_bounds-labels-i c = omega (arith, c.loop-i-test.true, c.requires.short)

pub bounds-labels-i : goal.bounds-labels-i
bounds-labels-i c = c.loop-i-test.true

pub overflow_cast-label : goal.overflow_cast-label
overflow_cast-label c = omega (arith, label_in c.requires c.begin.ensures c.loop-i.invariant c.loop-i-test.true c.if-label.true, c.requires.few)

pub add_face-requires : goal.add_face-requires
add_face-requires c = add_asks c.requires c.begin.ensures c.loop-i.invariant c.loop-i-test.true c.if-label.true

pub loop-i-preserved : goal.loop-i-preserved
loop-i-preserved c = elim c.if-label.branch [ then-label w ↦ rw w.numbers-is (adds c.requires c.begin.ensures c.loop-i.invariant c.loop-i-test.true w.if-label.true w.add_face.ensures) | else-label w ↦ rw w.numbers-is (skips c.requires c.begin.ensures c.loop-i.invariant c.loop-i-test.true w.if-label.false) ]

pub shape_of-numbers : goal.shape_of-numbers
shape_of-numbers c = c.loop-i.invariant.only.long ∙ c.begin.ensures.only.long

pub returns : goal.returns
returns c = done c.requires c.begin.ensures c.loop-i.invariant c.loop-i-test.false
