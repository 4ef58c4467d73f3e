-- `line_refusal::line_refusal` meets its contract: each test of the code decides the rules' own. Assumes nothing.
use native.Mathlib.Omega.{arith}
use borrow.Author.Tests.{le-ltb, lt-ltb, eq-eqb, ne_eqb}
use lib.ListN.{length}
use Rattle.rules.specs.State.{report_counts}
use Rattle.rules.specs.Lists.{below, all, first}
use Rattle.rules.specs.Refusal.{decided, unless, no1_counts, no6, at_first}
use Rattle.rules.specs.LineCall.{line_rooms}
use Rattle.line_refusal.proofs.line_refusal.Goals as goal

pub returns-then-counts-ne-COUNTS : goal.returns-then-counts-ne-COUNTS
unfolding decided no1_counts unless no6 at_first below all first line_rooms
returns-then-counts-ne-COUNTS c = let a = c.args in
    rw (ne_eqb (length a.counts.now) report_counts (omega arith))

pub returns-then-line-lt512 : goal.returns-then-line-lt512
unfolding decided no1_counts unless no6 at_first below all first line_rooms
returns-then-line-lt512 c = let a = c.args in
    rw (eq-eqb (length a.counts.now) report_counts (omega arith), lt-ltb a.line 512 (omega arith))

pub returns : goal.returns
unfolding decided no1_counts unless no6 at_first below all first line_rooms
returns c = let a = c.args in
    rw (eq-eqb (length a.counts.now) report_counts (omega arith), le-ltb a.line 512 (omega arith))
