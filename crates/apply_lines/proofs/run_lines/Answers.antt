-- `apply_lines::run_lines` meets its contract: each turn takes a line. Assumes nothing.
use Prim.Native.Nat.{◌-◌}
use native.Mathlib.Omega.{arith}
use Rattle.apply_lines.proofs.Running.{begin, line_there, line-asks, goes_on, again, done}
use Rattle.apply_lines.proofs.run_lines.Goals as goal

pub loop-at-init : goal.loop-at-init
loop-at-init c = begin

pub read_line-requires : goal.read_line-requires
read_line-requires c = c.loop-at-test.true

pub unwrap-line-requires : goal.unwrap-line-requires
unwrap-line-requires c = line_there c.loop-at.invariant c.requires _ c.read_line.ensures

pub apply_line-step-requires : goal.apply_line-step-requires
apply_line-step-requires c = line-asks c.loop-at.invariant (rw c.unwrap-line.ensures at c.read_line.ensures) c.requires

pub loop-at-smaller : goal.loop-at-smaller
loop-at-smaller c = let g = goes_on c.loop-at.invariant (rw c.unwrap-line.ensures at c.read_line.ensures) c.apply_line-step.ensures c.requires in
    omega (arith, g.0, g.1)

pub loop-at-preserved : goal.loop-at-preserved
loop-at-preserved c = again c.loop-at.invariant (rw c.unwrap-line.ensures at c.read_line.ensures) c.apply_line-step.ensures c.requires

pub shape_of-points : goal.shape_of-points
shape_of-points c = (c.loop-at.invariant.within c.requires).only_points.long

pub shape_of-faces : goal.shape_of-faces
shape_of-faces c = (c.loop-at.invariant.within c.requires).only_faces.long

pub shape_of-work : goal.shape_of-work
shape_of-work c = (c.loop-at.invariant.within c.requires).only_work.long

pub returns : goal.returns
returns c = done c.loop-at.invariant c.loop-at-test.false
