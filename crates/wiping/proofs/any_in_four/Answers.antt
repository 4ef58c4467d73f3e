-- `wiping::any_in_four` meets its contract. The invariant: x, y, z and u have the bits of the first i entries of each quarter.
-- Assumes nothing.
use native.Mathlib.Omega.{arith}
use Rattle.wiping.proofs.Blocks.{read_tells, four_none, four_more, four_done}
use Rattle.wiping.proofs.any_in_four.Goals as goal

pub loop-i-init : goal.loop-i-init
loop-i-init g c = rw (c.none-x.ensures, c.none-y.ensures, c.none-z.ensures, c.none-u.ensures) (four_none _ _ _)

pub loop-i-preserved : goal.loop-i-preserved
loop-i-preserved g c =
    rw (c.both-x.ensures, c.both-y.ensures, c.both-z.ensures, c.both-u.ensures)
    (four_more c.loop-i.invariant c.loop-i-test.true
    (read_tells c.args.work.now _ (omega (arith, c.requires)) c.index-work-from.is c.bits.ensures)
    (read_tells c.args.work.now _ (omega (arith, c.requires)) c.index-work-second.is c.bits-in-loop-i.ensures)
    (read_tells c.args.work.now _ (omega (arith, c.requires)) c.index-work-third.is c.bits-in-loop-i-2.ensures)
    (read_tells c.args.work.now _ (omega (arith, c.requires)) c.index-work-fourth.is c.bits-in-loop-i-3.ensures))

pub returns : goal.returns
returns g c = rw (c.both-3.ensures, c.both-2.ensures, c.both.ensures) (four_done c.loop-i.invariant c.loop-i-test.false)
