-- `patches::largest` meets its contract: the largest area of the patches passed. Assumes nothing.
use native.Mathlib.Omega.{arith}
use Rattle.patches.proofs.Limits.{largest_begin, largest_more, largest_same, largest_done}
use Rattle.patches.proofs.largest.Goals as goal
use Rattle.patches.proofs.largest.Goals.{else-held-area, then-held-area}

pub loop-k-init : goal.loop-k-init
loop-k-init c = largest_begin _ _

pub bounds-numbers-k : goal.bounds-numbers-k
bounds-numbers-k c = let p = c.requires in omega (arith, c.loop-k-test.true)

pub loop-k-preserved : goal.loop-k-preserved
loop-k-preserved c = let v = c.loop-k.invariant in
    let h = c.loop-k-test.true in
    elim c.if-held-area.branch [ then-held-area w ↦ rw w.held-is (largest_more _ _ v h w.if-held-area.true) | else-held-area w ↦ rw w.held-is (largest_same _ _ v h w.if-held-area.false) ]

pub returns : goal.returns
returns c = largest_done _ _ c.loop-k.invariant c.loop-k-test.false
