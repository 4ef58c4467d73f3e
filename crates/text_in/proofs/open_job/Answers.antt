-- `text_in::open_job` meets its contract. Assumes nothing.
use Rattle.text_in.proofs.Growing.{open_long, open_other, open_no_options, open_no_threshold, open_both}
use Rattle.text_in.proofs.open_job.Goals as goal

pub returns-then-a-ne1 : goal.returns-then-a-ne1
returns-then-a-ne1 c = open_long c.requires c.if-a-ne1.true

pub returns-then-line-ne111 : goal.returns-then-line-ne111
returns-then-line-ne111 c = open_other c.requires c.if-a-ne1.false c.if-line-ne111.true

pub returns-in_err-options : goal.returns-in_err-options
returns-in_err-options c = rw c.from_residual.ensures (open_no_options c.requires c.if-a-ne1.false c.if-line-ne111.false c.in_err-options.ensures)

pub returns-in_err-threshold : goal.returns-in_err-threshold
returns-in_err-threshold c = rw c.from_residual-in_err-threshold.ensures (open_no_threshold c.requires c.if-a-ne1.false c.if-line-ne111.false c.in_ok-options.ensures c.in_err-threshold.ensures)

pub returns : goal.returns
returns c = open_both c.requires c.if-a-ne1.false c.if-line-ne111.false c.in_ok-options.ensures c.in_ok-threshold.ensures
