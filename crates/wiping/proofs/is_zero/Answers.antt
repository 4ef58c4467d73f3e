-- `wiping::is_zero` meets its contract: each entry before i is 0. Assumes nothing.
use mathlib.Core.Path.{◌≡◌}
use native.Mathlib.Omega.{arith}
use Rattle.wiping.proofs.Blocks.{begin}
use Rattle.wiping.proofs.Zeros.{still, not_zero, all_zero}
use Rattle.wiping.proofs.is_zero.Goals as goal

pub loop-i-init : goal.loop-i-init
loop-i-init c = begin _ _ _

pub returns-then-any : goal.returns-then-any
returns-then-any c = not_zero _ _ c.requires c.any.ensures (omega (arith, c.min.ensures)) c.if-any.true

pub loop-i-preserved : goal.loop-i-preserved
loop-i-preserved c = let m : c.min.result ≡ 8192 = omega (arith, c.min.ensures) in
    rw m at (still _ _ c.requires c.loop-i.invariant (omega (arith, c.min.ensures)) c.any.ensures c.if-any.false)

pub returns : goal.returns
returns c = all_zero _ _ c.requires c.loop-i.invariant c.loop-i-test.false

pub returns-else-any : goal.returns-else-any
returns-else-any c = all_zero _ _ c.requires (still _ _ c.requires c.loop-i.invariant (omega (arith, c.min.ensures)) c.any.ensures c.if-any.false) (omega (arith, c.min.ensures))
