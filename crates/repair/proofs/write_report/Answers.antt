-- `repair::write_report` meets its contract: after k counts these stand in front. Assumes nothing.
use native.Mathlib.Omega.{arith}
use Rattle.repair.proofs.Reporting.{begin, turn, again, done}
use Rattle.repair.proofs.write_report.Goals as goal

pub loop-k-init : goal.loop-k-init
loop-k-init c = begin _ _

pub overflow_cast-report : goal.overflow_cast-report
overflow_cast-report c = omega (arith, turn c.requires c.loop-k.invariant c.loop-k-test.true)

pub bounds-report-k : goal.bounds-report-k
bounds-report-k c = omega (arith, turn c.requires c.loop-k.invariant c.loop-k-test.true)

pub loop-k-preserved : goal.loop-k-preserved
loop-k-preserved c = again c.requires c.loop-k.invariant c.loop-k-test.true

pub shape_of-report : goal.shape_of-report
shape_of-report c = c.loop-k.invariant.only.long

pub returns : goal.returns
returns c = done c.requires c.loop-k.invariant (omega arith)
