-- `repair::write_report` meets its contract: after k counts these stand in front. Assumes nothing.
use Rattle.repair.proofs.Reporting.{Wrote}
use Rattle.repair.proofs.write_report.Given as goal

abbrev pub invariant-loop-k : goal.invariant-loop-k
invariant-loop-k l = Wrote l.initial.report l.all l.report l.k
