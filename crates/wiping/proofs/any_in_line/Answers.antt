-- `wiping::any_in_line` meets its contract. The invariant: x has the bits of the first i entries of the region.
-- Assumes nothing.
use mathlib.Core.Path.{◌≡◌}
use native.Mathlib.Omega.{arith}
use Rattle.wiping.proofs.Blocks.{any_none, any_more, read_tells}
use Rattle.wiping.proofs.any_in_line.Goals as goal

pub loop-i-init : goal.loop-i-init
loop-i-init g c = (omega arith, rw c.none-x.ensures (any_none _ _))

pub loop-i-preserved : goal.loop-i-preserved
loop-i-preserved g c = (omega arith, rw c.both-x.ensures (any_more c.loop-i.invariant.1 (read_tells c.args.work.now _ (omega (arith, c.requires)) c.index-work-from.is c.bits.ensures)))

pub returns : goal.returns
returns g c = let e : c.loop-i.i ≡ c.args.n = omega arith in
    rw (← e) c.loop-i.invariant.1
