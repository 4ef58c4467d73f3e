-- `text_out::put_points` meets its contract: the lines of the first i points are put. Assumes nothing.
use native.Mathlib.Omega.{arith}
use Rattle.rule_laws.proofs.Flat.{length_points}
use Rattle.text_out.specs.Printed.{point_line}
use Rattle.text_out.proofs.Lines.{begin, point_again, done, point_asks}
use Rattle.text_out.proofs.put_points.Goals as goal

pub loop-i-init : goal.loop-i-init
loop-i-init c = begin point_line _ 53 (omega (arith, c.requires.room))

pub put_point-next-requires : goal.put_point-next-requires
put_point-next-requires c = point_asks _ c.requires c.loop-i.invariant c.loop-i-test.true

pub loop-i-preserved : goal.loop-i-preserved
loop-i-preserved c = point_again _ c.loop-i.invariant c.loop-i-test.true c.put_point-next.ensures

pub shape_of-out : goal.shape_of-out
shape_of-out c = c.loop-i.invariant.puts.only.long

pub returns : goal.returns
returns c = done point_line _ 53 c.loop-i.invariant (length_points _) c.loop-i-test.false
