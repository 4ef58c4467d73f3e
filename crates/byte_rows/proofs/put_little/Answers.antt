-- `bytes::put_little` meets its contract: the first i bytes are put, and m has the others. Assumes nothing.
use mathlib.Core.Path.{◌≡◌}
use native.Mathlib.Omega.{arith}
use Rattle.byte_rows.proofs.Little.{begin, turn, again, done}
use Rattle.byte_rows.proofs.put_little.Goals as goal

pub loop-i-init : goal.loop-i-init
loop-i-init c = begin _ c.requires

pub overflow_add-out : goal.overflow_add-out
overflow_add-out c = omega (arith, turn c.loop-i.invariant c.loop-i-test.true)

pub bounds-out-at : goal.bounds-out-at
bounds-out-at c = omega (arith, turn c.loop-i.invariant c.loop-i-test.true)

pub loop-i-preserved : goal.loop-i-preserved
loop-i-preserved c = again c.loop-i.invariant c.loop-i-test.true

pub overflow_add-result : goal.overflow_add-result
overflow_add-result c = omega (arith, c.loop-i.invariant.begun)

pub shape_of-out : goal.shape_of-out
shape_of-out c = c.loop-i.invariant.begun.only.long

pub returns : goal.returns
returns c =
    let e : c.loop-i.i ≡ c.args.k = omega (arith, c.loop-i-test.false, c.loop-i.auto.i-end) in
    rw e at (done c.loop-i.invariant c.loop-i-test.false)
