-- `windows::widen` meets its contract. The invariant: the first i entries are copied. Assumes nothing.
use Rattle.std.proofs.Common.{◌+◌, arith}
use Rattle.windows.proofs.Fitting.{widen_none, widen_turn, widen_more, widen_all}
use Rattle.windows.proofs.widen.Goals as goal

pub loop-i-init : goal.loop-i-init
loop-i-init c = widen_none c.requires

pub overflow_add-to : goal.overflow_add-to
overflow_add-to c = omega (arith, widen_turn c.requires c.loop-i.invariant)

pub offset_bounds-buffer-s : goal.offset_bounds-buffer-s
offset_bounds-buffer-s c = omega (arith, widen_turn c.requires c.loop-i.invariant)

pub bounds-buffer-s : goal.bounds-buffer-s
bounds-buffer-s c = omega (arith, widen_turn c.requires c.loop-i.invariant)

pub overflow_cast-to : goal.overflow_cast-to
overflow_cast-to c = omega (arith, c.shared_slice_known-1.given (c.args.s + c.loop-i.i))

pub overflow_add-to-in-loop-i : goal.overflow_add-to-in-loop-i
overflow_add-to-in-loop-i c = omega (arith, c.shared_slice_known-1.given (c.args.s + c.loop-i.i), widen_turn c.requires c.loop-i.invariant)

pub offset_bounds-to-i : goal.offset_bounds-to-i
offset_bounds-to-i c = omega (arith, widen_turn c.requires c.loop-i.invariant)

pub bounds-to-i : goal.bounds-to-i
bounds-to-i c = omega (arith, widen_turn c.requires c.loop-i.invariant)

pub loop-i-preserved : goal.loop-i-preserved
loop-i-preserved c = widen_more c.requires c.loop-i.invariant c.loop-i-test.true

pub shape_of-to : goal.shape_of-to
shape_of-to c = c.loop-i.invariant.long

pub returns : goal.returns
returns c = widen_all c.requires c.loop-i.invariant c.loop-i-test.false
