-- `patch_rank::cut` meets its contract: the cut is between low and high. Assumes nothing.
use native.Mathlib.Omega.{arith}
use Rattle.patch_rank.proofs.Scanning.{cut_begin, cut_up, cut_down, cut_done}
use Rattle.patch_rank.proofs.cut.Goals as goal

pub loop-high-init : goal.loop-high-init
loop-high-init c = cut_begin c.requires

pub overflow_sub-high : goal.overflow_sub-high
overflow_sub-high c = omega (arith, c.loop-high.invariant)

pub overflow_sub-middle : goal.overflow_sub-middle
overflow_sub-middle c = omega (arith, c.loop-high.invariant)

pub overflow_add-middle : goal.overflow_add-middle
overflow_add-middle c = omega (arith, c.loop-high.invariant)

pub reaching-requires : goal.reaching-requires
reaching-requires c = omega (arith, c.requires.fit)

pub loop-high-smaller-then-n-reaching : goal.loop-high-smaller-then-n-reaching
loop-high-smaller-then-n-reaching c = omega (arith, c.loop-high-test.true, c.loop-high.invariant)

pub loop-high-preserved-then-n-reaching : goal.loop-high-preserved-then-n-reaching
loop-high-preserved-then-n-reaching c = cut_up c.requires c.loop-high.invariant c.loop-high-test.true (rw c.reaching.ensures at c.if-n-reaching.true)

pub loop-high-smaller : goal.loop-high-smaller
loop-high-smaller c = omega (arith, c.loop-high-test.true, c.loop-high.invariant)

pub loop-high-preserved : goal.loop-high-preserved
loop-high-preserved c = cut_down c.requires c.loop-high.invariant c.loop-high-test.true (rw c.reaching.ensures at c.if-n-reaching.false)

pub returns : goal.returns
returns c = cut_done c.requires c.loop-high.invariant c.loop-high-test.false
