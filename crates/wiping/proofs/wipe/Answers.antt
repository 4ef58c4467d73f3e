-- `wiping::wipe` meets its contract. The invariant: only the first i entries of the region are changed, and those are zero.
-- Assumes nothing.
use mathlib.Core.Path.{◌≡◌}
use native.Mathlib.Omega.{arith}
use Rattle.wiping.proofs.Blocks.{begin, clears, wiped_only, wiped_zeros}
use Rattle.wiping.proofs.wipe.Goals as goal

pub loop-i-init : goal.loop-i-init
loop-i-init g c = begin _ _ _

pub loop-i-preserved : goal.loop-i-preserved
loop-i-preserved g c = let m : c.min.result ≡ 8192 = omega (arith, c.min.ensures) in
    rw m at (clears c.loop-i.invariant (omega (arith, c.min.ensures)) c.wipe_block.ensures.only c.wipe_block.ensures.filled)

pub returns : goal.returns
returns g c = record { only = wiped_only c.loop-i.invariant c.loop-i-test.false; filled = wiped_zeros c.loop-i.invariant c.loop-i-test.false }

pub returns-2 : goal.returns-2
returns-2 g c =
    let v = clears c.loop-i.invariant (omega (arith, c.min.ensures)) c.wipe_block.ensures.only c.wipe_block.ensures.filled in
    record { only = wiped_only v (omega (arith, c.min.ensures)); filled = wiped_zeros v (omega (arith, c.min.ensures)) }
