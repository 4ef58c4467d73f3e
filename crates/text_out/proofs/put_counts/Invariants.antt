-- `text_out::put_counts` meets its contract: the first counts are put. Assumes nothing.
use Rattle.text_out.proofs.Lines.{SoFar, field}
use Rattle.text_out.proofs.put_counts.Given as goal

abbrev pub invariant-loop-count : goal.invariant-loop-count
invariant-loop-count l = SoFar field l.report 11 l.initial.out l.at l.out l.next l.count-index
