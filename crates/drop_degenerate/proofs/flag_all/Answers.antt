-- `drop_degenerate::flag_all` meets its contract: the flags of the faces passed are right. Assumes nothing.
use native.Mathlib.Omega.{arith}
use Rattle.drop_degenerate.proofs.Marking.{begin, turn, corners_in, again, done, all_counted, few_more}
use Rattle.drop_degenerate.proofs.flag_all.Goals as goal

pub loop-i-init : goal.loop-i-init
loop-i-init c = begin c.requires

pub shape-form-requires : goal.shape-form-requires
shape-form-requires c = corners_in c.requires c.loop-i.invariant c.loop-i-test.true

pub overflow_add-repeated : goal.overflow_add-repeated
overflow_add-repeated c = let at-loop = c.before.before.before.before.before.before.before.before.before in
    omega (arith, turn at-loop.requires at-loop.loop-i.invariant at-loop.loop-i-test.true, few_more c.repeats.result c.from-repeated.ensures)

pub loop-i-preserved : goal.loop-i-preserved
loop-i-preserved c = again c.requires c.loop-i.invariant c.loop-i-test.true c.shape-form.ensures (rw c.leaves.ensures at c.from.ensures) (rw c.repeats.ensures at c.from-repeated.ensures)

pub returns : goal.returns
returns c = (record { mark_gives = done c.requires c.loop-i.invariant c.loop-i-test.false; value = all_counted c.requires c.loop-i.invariant c.loop-i-test.false })
