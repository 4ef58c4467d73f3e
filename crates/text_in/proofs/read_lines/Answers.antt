-- `text_in::read_lines` meets its contract: the lines before `at` are taken in. Assumes nothing.
use mathlib.Core.Path.{refl, ◌∙◌}
use native.Mathlib.Omega.{arith}
use Rattle.text_in.proofs.Lines.{begin, unended, bad, again, done}
use Rattle.text_in.proofs.read_lines.Goals as goal

pub loop-at-init : goal.loop-at-init
loop-at-init c = begin c.requires

pub find-end-requires : goal.find-end-requires
find-end-requires c = omega (arith, c.loop-at-test.true)

pub shape_of-points-then-end-text : goal.shape_of-points-then-end-text
shape_of-points-then-end-text c = c.loop-at.invariant.long_points

pub shape_of-faces-then-end-text : goal.shape_of-faces-then-end-text
shape_of-faces-then-end-text c = c.loop-at.invariant.long_faces

pub returns-then-end-text : goal.returns-then-end-text
returns-then-end-text c = record { faces_after = unended c.loop-at.invariant c.loop-at-test.true c.find-end.ensures c.if-end-text.true; told_within = tt }

pub slice_bounds-add_line-count : goal.slice_bounds-add_line-count
slice_bounds-add_line-count c = omega (arith, c.find-end.ensures.begins)

pub add_line-requires : goal.add_line-requires
add_line-requires c = c.loop-at.invariant.rooms

pub shape_of-points-in_err-grown : goal.shape_of-points-in_err-grown
shape_of-points-in_err-grown c = c.in_err-grown.ensures.long_points ∙ c.loop-at.invariant.long_points

pub shape_of-faces-in_err-grown : goal.shape_of-faces-in_err-grown
shape_of-faces-in_err-grown c = c.in_err-grown.ensures.long_faces ∙ c.loop-at.invariant.long_faces

pub returns-in_err-grown : goal.returns-in_err-grown
returns-in_err-grown c = rw c.from_residual.ensures (record { faces_after = bad c.loop-at.invariant c.loop-at-test.true c.find-end.ensures c.if-end-text.false c.in_err-grown.ensures refl; told_within = tt })

pub overflow_add-at : goal.overflow_add-at
overflow_add-at c = omega (arith, c.find-end.ensures.ends, c.if-end-text.false)

pub loop-at-smaller : goal.loop-at-smaller
loop-at-smaller c = omega (arith, c.find-end.ensures.begins, c.find-end.ensures.ends, c.loop-at-test.true)

pub loop-at-preserved : goal.loop-at-preserved
loop-at-preserved c = again c.loop-at.invariant c.loop-at-test.true c.find-end.ensures c.if-end-text.false c.in_ok-grown.ensures refl

pub shape_of-points : goal.shape_of-points
shape_of-points c = c.loop-at.invariant.long_points

pub shape_of-faces : goal.shape_of-faces
shape_of-faces c = c.loop-at.invariant.long_faces

pub returns : goal.returns
returns c = record { faces_after = done c.loop-at.invariant c.loop-at-test.false; told_within = (c.loop-at.invariant.rooms.few_points, c.loop-at.invariant.rooms.few_faces) }
