-- `patch_rank::reaching` meets its contract: n of the keys before k are t or more. Assumes nothing.
use native.Mathlib.Omega.{arith}
use Rattle.patch_rank.proofs.Scanning.{reach_begin, reach_few, reach_more, reach_same, reach_done}
use Rattle.patch_rank.proofs.reaching.Goals as goal
use Rattle.patch_rank.proofs.reaching.Goals.{else-t-key_at, then-t-key_at}

pub loop-k-init : goal.loop-k-init
loop-k-init c = reach_begin _ _ _

pub key_at-requires : goal.key_at-requires
key_at-requires c = let p = c.requires in omega (arith, c.loop-k-test.true)

pub overflow_add-n : goal.overflow_add-n
overflow_add-n c = omega (arith, reach_few _ _ _ c.loop-k.invariant, c.loop-k-test.true)

pub loop-k-preserved : goal.loop-k-preserved
loop-k-preserved c = let v = c.loop-k.invariant in
    let h = c.loop-k-test.true in
    let e = c.key_at.ensures in
    elim c.if-t-key_at.branch [ then-t-key_at w ↦ rw w.n-is (reach_more _ _ _ v h (rw e at w.if-t-key_at.true)) | else-t-key_at w ↦ rw w.n-is (reach_same _ _ _ v h (rw e at w.if-t-key_at.false)) ]

pub returns : goal.returns
returns c = reach_done _ _ _ c.loop-k.invariant c.loop-k-test.false
