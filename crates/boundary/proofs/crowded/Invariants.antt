-- `boundary::crowded` meets its contract: no run before i is long. Assumes nothing.
use Rattle.refuse.proofs.Scans.{Clean}
use Rattle.boundary.specs.Rows.{long}
use Rattle.boundary.proofs.crowded.Given as goal

abbrev pub invariant-loop-i : goal.invariant-loop-i
invariant-loop-i l = Clean (long l.work l.starts) l.m l.i
