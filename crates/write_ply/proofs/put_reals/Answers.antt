-- `write_ply::put_reals` meets its contract: the bits of the first i coordinates are put. Assumes nothing.
use lib.Ieee.{nan}
use native.Mathlib.Omega.{arith}
use Rattle.rule_laws.proofs.Bytes.{little_long}
use Rattle.write_ply.specs.Written.{real}
use Rattle.write_ply.proofs.Putting.{begin, again, done, real_turn}
use Rattle.write_ply.proofs.put_reals.Goals as goal

pub loop-i-init : goal.loop-i-init
loop-i-init c = begin real 8 _ (omega (arith, c.requires.room))

pub float_to_bits-points : goal.float_to_bits-points
float_to_bits-points c = c.requires.numbers _ c.loop-i-test.true

pub put_little-next-requires : goal.put_little-next-requires
put_little-next-requires c = omega (arith, real_turn c.requires c.loop-i.invariant c.loop-i-test.true)

pub loop-i-preserved : goal.loop-i-preserved
loop-i-preserved c = again real 8 _ c.loop-i.invariant nan c.loop-i-test.true c.put_little-next.ensures (little_long 8 _)

pub shape_of-out : goal.shape_of-out
shape_of-out c = c.loop-i.invariant.puts.only.long

pub returns : goal.returns
returns c = done real 8 _ c.loop-i.invariant c.loop-i-test.false
